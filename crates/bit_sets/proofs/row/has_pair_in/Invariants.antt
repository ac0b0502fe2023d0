use Rattle.bit_sets.proofs.PairLaw.{NoPairBelow}
use Rattle.bit_sets.proofs.row.has_pair_in.Given as goal

abbrev pub invariant-loop-i : goal.invariant-loop-i
invariant-loop-i l = NoPairBelow l.words l.others l.i
