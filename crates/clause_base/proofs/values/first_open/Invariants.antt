use Rattle.clause_base.specs.ValueTruths.{AreGivenBelow}
use Rattle.clause_base.proofs.values.first_open.Given as goal

abbrev pub invariant-loop-v : goal.invariant-loop-v
invariant-loop-v l = AreGivenBelow l.v l.on
