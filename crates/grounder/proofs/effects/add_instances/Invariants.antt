use Rattle.std.proofs.Common.{◌≡◌, ◌++◌, take}
use Rattle.grounding_defs.specs.Instance.{changes_of}
use Rattle.grounder.specs.own.Putting.{effects_at, left_effects}
use Rattle.grounder.proofs.effects.add_instances.Given as goal

abbrev pub invariant-loop-number : goal.invariant-loop-number
invariant-loop-number l =
    effects_at l.into.items ≡ effects_at l.fn.into.items ++ left_effects l.known.domains.now l.known.facts (take l.number (changes_of l.known.domains.now l.objects l.effect))
