use Rattle.bit_sets.proofs.RowLaw.{NoneCommon}
use Rattle.bit_sets.proofs.row.least_in.Given as goal

abbrev pub invariant-loop-i : goal.invariant-loop-i
invariant-loop-i l = NoneCommon l.words l.others l.from l.i
