use Rattle.bit_sets.specs.Rows.{row_has}
use Rattle.two_invariants.specs.own.Index.{AreTakers}
use Rattle.two_invariants.proofs.takers.takers_of.Given as goal

abbrev pub invariant-loop-number : goal.invariant-loop-number
invariant-loop-number l = AreTakers l.before.facts l.before.rows.now (row_has l.before.set.now) l.before.groups.now l.number l.takers
