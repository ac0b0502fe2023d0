use Rattle.std.proofs.Common.{arith, ◌≡◌, ◌<◌, ◌∙◌, sym, ap, refl, subst, ℕ, List, Bool, Some, slice_get, length}
use Rattle.std.proofs.lemmas.Option.{slice_get_read}
use Rattle.clause_base.specs.Formula.{Cnf, IsModel}
use Rattle.horizon_run.specs.Run.{truths_of}
use Rattle.race.specs.Runs.{IsRunOf, live_run_of}
use Rattle.race.specs.Tied.{IsTied, race_state}
use Rattle.race.proofs.published.Ends.{judged-plan, get-runner, all-at, same-plan}
use Rattle.race.proofs.racing.Racing.plan.Goals as goal

pub returns : goal.returns
returns g c =
    let r = c.args.self in
    let run = c.index-run.result.now in
    let h = run.formula.name in
    let t : IsTied g.input r = c.requires.1.0 in
    let formulas : g.input.formula ≡ g.F.StepForm.formula_of c.args.form.now = c.requires.1.1.0 in
    let steps : g.input.steps ≡ g.F.StepForm.stands_for c.args.form.now = c.requires.1.1.1.0 in
    let within : c.args.place < length r.runs.items = c.requires.1.1.1.1.0 in
    let at : slice_get r.runs.items c.args.place ≡ Some run = slice_get_read r.runs.items (length r.runs.items) c.args.place run refl within c.index-run.ensures in
    let is : IsRunOf g.input run = all-at (IsRunOf g.input) r.runs.items c.args.place run t.runs at in
    let first = c.requires.1.1.1.1.1.0 ∙ get-runner r.runs.items c.args.place run at in
    let values : c.as_slice.result.now ≡ truths_of (g.input.formula h) run.state = c.as_slice.ensures.value ∙ (c.in_ok-values.ensures.values ∙ ap (λ (f : Cnf). truths_of f run.state) (sym is.formula)) in
    let made : c.in_ok-steps.steps ≡ g.input.steps h (truths_of (g.input.formula h) run.state) =
    c.in_ok-steps.ensures
    ∙ (ap (λ (n : ℕ). g.F.StepForm.stands_for c.args.form.now n c.as_slice.result.now) c.horizon-horizon.ensures
    ∙ (ap (λ (f : ℕ → List Bool → List (List ℕ)). f h c.as_slice.result.now) (sym steps)
    ∙ ap (g.input.steps h) values)) in
    record {
      ends = record {
        told = judged-plan g.input (race_state r) (live_run_of run) first ∙ same-plan (sym c.horizon-horizon.ensures) (sym made) (sym c.in_ok-lines.ensures.told);
        lines = c.in_ok-lines.ensures.lines;
        sums = let s = c.in_ok-lines.ensures.sums in omega (arith, s, t.within);
        modelled =
            let model = subst (λ (f : Cnf). IsModel f (truths_of f run.state)) (sym is.formula) c.values.ensures.model in
            let here : (values : List Bool) × IsModel (g.input.formula h) values × (c.in_ok-steps.steps ≡ g.input.steps h values) = (truths_of (g.input.formula h) run.state, model, made) in
            subst (λ (n : ℕ). (values : List Bool) × IsModel (g.input.formula n) values × (c.in_ok-steps.steps ≡ g.input.steps n values)) (sym c.horizon-horizon.ensures) here;
      };
    }
