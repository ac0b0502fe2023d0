use Rattle.std.proofs.Common.{◌≡◌, ◌++◌, ◌/◌, ◌<◌, drop, option_to_list, IfSome}
use Rattle.clause_base.specs.Derivation.{open_literals}
use Rattle.rup_check.proofs.effect.effect_of.Given as goal

abbrev pub invariant-loop-place : goal.invariant-loop-place
invariant-loop-place l = record {
  opened : open_literals l.marks.falsified l.clause ≡ option_to_list l.open ++ open_literals l.marks.falsified (drop l.place l.clause);
  below : IfSome l.open (λ x. x / 2 < l.marks.variables);
}
