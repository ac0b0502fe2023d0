use Rattle.std.proofs.Common.{arith, ◌∙◌, length, ap}
use Rattle.clause_base.specs.Derivation.{clauses_of}
use Rattle.conflict_analysis.specs.Clauses.{ClausesView}
use Rattle.conflict_analysis.proofs.clauses.Clauses.learned_count.Goals as goal

pub overflow_cast-result : goal.overflow_cast-result
overflow_cast-result c = omega (arith, c.self.invariant.0, c.learned_count.ensures)

pub returns-clause-value : goal.returns-clause-value
returns-clause-value c = c.learned_count.ensures ∙ ap (λ (w : ClausesView). length (clauses_of w.log)) c.self.view_is

pub returns-clause-few : goal.returns-clause-few
returns-clause-few c = omega (arith, c.self.invariant.0, c.learned_count.ensures)
