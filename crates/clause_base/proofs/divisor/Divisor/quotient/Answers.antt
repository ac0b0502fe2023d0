-- quotient
use Rattle.std.proofs.Common.{arith, ◌∙◌}
use Rattle.clause_base.proofs.DivisionLaw.{quotient_kept}
use Rattle.clause_base.proofs.divisor.Divisor.quotient.Goals as goal

pub returns : goal.returns
returns c = quotient_kept c.args.number c.from.result c.from-2.result c.self.inside.by c.args.self.now (omega arith) c.from.ensures (c.from-2.ensures ∙ c.self.invariant) c.self.view_is
