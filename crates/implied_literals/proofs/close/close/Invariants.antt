use Rattle.std.proofs.Common.{◌*◌}
use Rattle.bit_sets.specs.Rows.{row_has}
use Rattle.implied_literals.specs.Rows.{clause_in, IsGrownFrom, IsGrowing, work}
use Rattle.implied_literals.proofs.close.close.Given as goal

abbrev pub invariant-follow : goal.invariant-follow
invariant-follow l = record {
  grown : IsGrownFrom (clause_in l.done.rules.now.clauses.now) (row_has l.initial.row) (row_has l.row);
  growing : IsGrowing (clause_in l.done.rules.now.clauses.now) (2 * l.done.rules.now.facts) (row_has l.row) (row_has l.spare.rest);
}

abbrev pub decreases-follow : goal.decreases-follow
decreases-follow l = work (2 * l.done.rules.now.facts) (row_has l.row) (row_has l.spare.rest)
