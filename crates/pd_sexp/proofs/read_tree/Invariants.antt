use Rattle.pd_sexp.specs.own.Reader.{state_of}
use Rattle.pd_sexp.proofs.Verdicts.{Reached}
use Rattle.pd_sexp.proofs.read_tree.Given as goal

abbrev pub invariant-loop-at : goal.invariant-loop-at
invariant-loop-at l = Reached l.bytes l.at (state_of l.reader)
