use Rattle.std.proofs.Common.{◌≡◌, take}
use Rattle.proof_log.proofs.clause.literals.Given as goal

abbrev pub invariant-loop-code : goal.invariant-loop-code
invariant-loop-code l = l.lits.items ≡ take l.code-index l.codes
