use Rattle.std.proofs.Common.{refl, subst, ◌∙◌}
use Rattle.gt_core.specs.Task.{Task}
use Rattle.plan_tasks.specs.Stepping.{places_by, is_plan_by}
use Rattle.judge_top.specs.Answers.{ready, too_large, formula, OfKnown, IsFormula, TellsTooMany}
use Rattle.judge_top.proofs.Handed.{files_handed, task_handed}
use Rattle.judge_top.proofs.Formulas.{tells}
use Rattle.judge_top.proofs.answer.answer_formula.Goals as goal

pub returns-in_err-ready : goal.returns-in_err-ready
returns-in_err-ready g c = files_handed _ _ _ _ _ c.from_residual.ensures.1 c.in_err-ready.ensures.stops

pub returns-in_err-formula : goal.returns-in_err-formula
returns-in_err-formula g c =
    task_handed _ _ _ _ _ c.in_ok-ready.ensures.task c.in_ok-ready.ensures.ready (TellsTooMany (places_by c.args.steps) c.args.horizon c.in_ok-ready.ready.grounded.task) (λ end h. too_large end h refl) _ _ c.from_residual-in_err-formula.ensures.1 (rw c.task.ensures at c.in_err-formula.ensures.stops)

pub returns : goal.returns
returns g c =
    let r = c.in_ok-ready.ready in
    let f = c.in_ok-formula.formula in
    let known = subst (λ (t : Task). OfKnown t (IsFormula (places_by c.args.steps) (is_plan_by c.args.steps) c.args.horizon f)) c.task.ensures c.in_ok-formula.ensures.formula in
    ready r.task r.grounded c.in_ok-ready.ensures.task c.in_ok-ready.ensures.ready (formula (tells c.args.steps c.args.horizon r.grounded.task f _ c.in_ok-text.text (c.as_bytes.ensures.value ∙ c.word_of.ensures) c.in_ok-text.ensures.text known))
