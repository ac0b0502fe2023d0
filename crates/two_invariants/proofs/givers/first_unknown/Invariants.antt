use Rattle.std.proofs.Common.{◌≡◌, drop}
use Rattle.std.specs.List.{list_all}
use Rattle.bit_sets.specs.Rows.{row_has}
use Rattle.two_invariants.proofs.givers.first_unknown.Given as goal

abbrev pub invariant-loop-lit : goal.invariant-loop-lit
invariant-loop-lit l = list_all (row_has l.set) (drop l.lit-index l.lits) ≡ list_all (row_has l.set) l.lits
