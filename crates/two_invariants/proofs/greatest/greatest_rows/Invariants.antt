use Rattle.std.proofs.Common.{◌*◌}
use Rattle.bit_sets.specs.Rows.{row_has}
use Rattle.implied_literals.specs.Rows.{clause_in, AreRows}
use Rattle.implied_literals.specs.Tested.{AreKnown}
use Rattle.two_invariants.specs.own.Greatest.{Surrounds}
use Rattle.implied_literals.specs.Renewed.{IsTested}
use Rattle.two_invariants.specs.own.Rounds.{clause_count}
use Rattle.two_invariants.proofs.greatest.greatest_rows.Given as goal

abbrev pub invariant-round : goal.invariant-round
invariant-round g l = record {
  rows : AreRows l.task.facts l.rows.items;
  around : Surrounds l.task l.rows.items;
  known : AreKnown (clause_in l.rows.items) (2 * l.task.facts) (row_has l.asked) l.known;
  tested : IsTested l.task l.known l.rows.items l.todo.items;
}

abbrev pub decreases-round : goal.decreases-round
decreases-round g l = clause_count (2 * l.task.facts) l.rows.items
