use Rattle.std.proofs.Common.{not, ◌&&◌}
use Rattle.bit_sets.proofs.RowLaw.{IsJoinedTo}
use Rattle.bit_sets.proofs.row.subtract_words.Given as goal

abbrev pub invariant-loop-i : goal.invariant-loop-i
invariant-loop-i l = IsJoinedTo (λ x y. x && not y) l.initial.words l.others l.i l.words
