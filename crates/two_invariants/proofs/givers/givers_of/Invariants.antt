use Rattle.bit_sets.specs.Rows.{row_has}
use Rattle.two_invariants.specs.own.Index.{AreGivers}
use Rattle.two_invariants.proofs.givers.givers_of.Given as goal

abbrev pub invariant-loop-number : goal.invariant-loop-number
invariant-loop-number l = AreGivers (row_has l.set) l.groups l.number l.givers
