use Rattle.std.proofs.Common.{◌≡◌, ℕ, length, sym, ap, ◌∙◌, subst}
use Rattle.clause_base.specs.Choice.{Known}
use Rattle.clause_base.specs.Derivation.{clause_kept}
use Rattle.clause_base.specs.Told.{told_values}
use Rattle.cdcl_defs.proofs.published.Measure.{length-values_from}
use Rattle.cdcl_defs.specs.Sound.{IsSound}
use Rattle.cdcl_core.specs.own.Search.{SearchView, SolverView}
use Rattle.cdcl_tables.specs.Assignment.{literals}
use Rattle.cdcl_core.proofs.Told.{told_are_values}
use Rattle.cdcl_core.proofs.solver.Solver.choice.Goals as goal

pub choose_told-requires-clause-fits : goal.choose_told-requires-clause-fits
choose_told-requires-clause-fits g c =
    let t = c.pass_given.new.self in
    let long : length c.values.result.now ≡ c.self.inside.search.formula.variables =
    ap (λ (v : Known). length v) c.values.ensures ∙ length-values_from t.state.trail 0 t.formula.variables ∙ ap (λ (w : SearchView). w.formula.variables) c.pass_given.ensures in
    subst (g.C.Chooser.fits c.self.inside.chooser) (sym long) c.self.invariant.0

pub choose_told-requires-clause-told : goal.choose_told-requires-clause-told
choose_told-requires-clause-told g c =
    let t = c.pass_given.new.self in
    let long : length c.values.result.now ≡ t.formula.variables = ap (λ (v : Known). length v) c.values.ensures ∙ length-values_from t.state.trail 0 t.formula.variables in
    let inside = subst (λ (w : SolverView g.row.C.Denot). IsSound w.formula w.state) (sym c.self.view_is) c.requires.sound in
    let sound = subst (λ (w : SearchView). IsSound w.formula w.state) (sym c.pass_given.ensures) inside in (
      literals t.state.trail,
      c.tell.ensures,
      c.values.ensures ∙ sym (told_are_values (clause_kept t.formula.clauses t.state.log) t.formula.variables t.state.trail sound.trail) ∙ ap (λ (n : ℕ). told_values n (literals t.state.trail)) (sym long),
    )
