use Rattle.std.proofs.Common.{◌≡◌, take}
use Rattle.grounding_defs.specs.Simplify.{values_in}
use Rattle.grounder.proofs.grounded.initial_values.Given as goal

abbrev pub invariant-loop-atom : goal.invariant-loop-atom
invariant-loop-atom l = l.values.items ≡ values_in (take l.atom-index l.known.facts) l.known.domains.now.init
