use Rattle.std.proofs.Common.{◌≡◌, take}
use Rattle.std.specs.List.{flat_map}
use Rattle.grounding_defs.specs.Instance.{changes_of}
use Rattle.grounder.specs.own.Putting.{effects_at, left_effects}
use Rattle.grounder.proofs.effects.effects_of.Given as goal

abbrev pub invariant-loop-effect : goal.invariant-loop-effect
invariant-loop-effect l = effects_at l.all.items ≡ left_effects l.known.domains.now l.known.facts (flat_map (changes_of l.known.domains.now l.objects) (take l.effect-index l.effects))
