use Rattle.std.proofs.Common.{◌≡◌, sym, ap, subst, ◌∙◌}
use Rattle.std.proofs.lemmas.Result.{IfOk-weaker}
use Rattle.horizon_run.specs.Run.{RunView, choice_in, choice_of, IsNew}
use Rattle.horizon_run.proofs.run.HorizonRun.new.Goals as goal

pub returns-clause-start : goal.returns-clause-start
returns-clause-start g c = IfOk-weaker c.made.result (λ run. run ≡ c.in_ok-sharing.field-0) IsNew (λ run is. subst IsNew (sym is) c.in_ok-sharing.ensures.start) c.made.ensures

pub returns-clause-formula : goal.returns-clause-formula
returns-clause-formula g c =
    IfOk-weaker c.made.result (λ run. run ≡ c.in_ok-sharing.field-0) (λ run. run.formula ≡ g.F.StepForm.formula_of c.args.form.now c.args.n)
    (λ run is. ap (λ (r : RunView). r.formula) is ∙ c.in_ok-sharing.ensures.formula) c.made.ensures

pub returns-clause-choice : goal.returns-clause-choice
returns-clause-choice g c =
    IfOk-weaker c.made.result (λ run. run ≡ c.in_ok-sharing.field-0)
    (λ run. choice_in run ≡ choice_of c.args.task.now (g.F.StepForm.layout_of c.args.form.now c.args.n))
    (λ run is. ap choice_in is ∙ (c.in_ok-sharing.ensures.choice ∙ ap (λ task. choice_of task (g.F.StepForm.layout_of c.args.form.now c.args.n)) c.requires.form_of)) c.made.ensures
