use Rattle.std.proofs.Common.{refl}
use Rattle.plan_endings.proofs.published.Stopped.{handed, weaker}
use Rattle.search_top.specs.declared.ended.Ended.TheVariants.{Plain}
use Rattle.search_top.specs.Answers.{ready, not_ready}
use Rattle.search_top.proofs.refute.answer_formula.Goals as goal

pub returns-in_err-ready : goal.returns-in_err-ready
returns-in_err-ready g c = handed Plain _ _ (λ end h. not_ready end h refl) _ _ c.from_residual.ensures.1 c.in_err-ready.ensures.stops

pub returns : goal.returns
returns g c =
    let r = c.in_ok-ready.ready in
    weaker Plain _ _ (λ end h. ready r.task r.grounded c.in_ok-ready.ensures.task c.in_ok-ready.ensures.ready h) c.formula_in.result (rw c.task.ensures at c.formula_in.ensures)
