use Rattle.std.proofs.Common.{refl}
use Rattle.plan_endings.proofs.published.Stopped.{handed}
use Rattle.search_top.specs.declared.ended.Ended.TheVariants.{Plain}
use Rattle.search_top.specs.Answers.{ready, not_ready}
use Rattle.search_top.proofs.Knowing.{judged_below}
use Rattle.search_top.proofs.never.answer_certificate.Goals as goal

pub returns-in_err-ready : goal.returns-in_err-ready
returns-in_err-ready g c = handed Plain _ _ (λ end h. not_ready end h refl) _ _ c.from_residual.ensures.1 c.in_err-ready.ensures.stops

pub ended_judged-requires : goal.ended_judged-requires
ended_judged-requires g c =
    let r = c.in_ok-ready.ready in
    judged_below r.task r.grounded c.in_ok-ready.ensures.ready.grounded c.in_ok-said.said (rw c.task.ensures at c.in_ok-said.ensures.actions)

pub returns : goal.returns
returns g c =
    let r = c.in_ok-ready.ready in
    ready r.task r.grounded c.in_ok-ready.ensures.task c.in_ok-ready.ensures.ready
    (record { said = c.in_ok-said.said; is = rw c.task.ensures at c.in_ok-said.ensures.said; told = c.in_ok-end.ensures })
