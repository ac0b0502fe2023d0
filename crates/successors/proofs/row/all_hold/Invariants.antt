use Rattle.std.proofs.Common.{◌≡◌, drop}
use Rattle.bit_sets.specs.Rows.{row_has}
use Rattle.gt_core.specs.Literal.{all_hold}
use Rattle.successors.proofs.row.all_hold.Given as goal

-- all hold where those that are left do
abbrev pub invariant-loop-lit : goal.invariant-loop-lit
invariant-loop-lit l = all_hold (row_has l.row) l.lits ≡ all_hold (row_has l.row) (drop l.lit-index l.lits)
