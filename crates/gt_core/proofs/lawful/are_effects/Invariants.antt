use Rattle.std.proofs.Common.{◌≡◌, drop, None}
use Rattle.std.specs.Option.{option_copied}
use Rattle.gt_core.specs.Lawful.{are_effects}
use Rattle.gt_core.proofs.lawful.are_effects.Given as goal

abbrev pub invariant-loop-effect : goal.invariant-loop-effect
invariant-loop-effect l = are_effects l.facts None l.effects ≡ are_effects l.facts (option_copied l.last) (drop l.effect-index l.effects)
