use Rattle.std.proofs.Common.{◌≡◌, not, drop}
use Rattle.std.specs.List.{list_all}
use Rattle.bit_sets.specs.Rows.{row_has}
use Rattle.implied_literals.proofs.again.none_in.Given as goal

abbrev pub invariant-loop-lit : goal.invariant-loop-lit
invariant-loop-lit l = list_all (λ k. not (row_has l.set k)) (drop l.lit-index l.lits) ≡ list_all (λ k. not (row_has l.set k)) l.lits
