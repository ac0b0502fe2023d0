use Rattle.std.proofs.Common.{◌∙◌, length, ap, sym}
use Rattle.conflict_analysis.specs.Clauses.{ClausesView, all_clauses}
use Rattle.conflict_analysis.proofs.Kept.{length_kept}
use Rattle.conflict_analysis.proofs.clauses.Clauses.count.Goals as goal

pub returns-clause-flags : goal.returns-clause-flags
returns-clause-flags c =
    ap (λ (w : ClausesView). length w.kept) (sym c.self.view_is)
    ∙ length_kept c.self.inside.formula c.self.inside.log
    ∙ ap (λ (w : ClausesView). length (all_clauses w)) c.self.view_is
