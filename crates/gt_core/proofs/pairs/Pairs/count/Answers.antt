use Rattle.std.proofs.Common.{arith}
use Rattle.gt_core.proofs.ClausesLaw.{few_clauses}
use Rattle.gt_core.proofs.pairs.Pairs.count.Goals as goal

pub overflow_cast-result : goal.overflow_cast-result
overflow_cast-result c = omega (arith, few_clauses _ c.self.invariant.0)
