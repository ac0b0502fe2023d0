use Rattle.std.proofs.Common.{refl}
use Rattle.plan_endings.proofs.published.Stopped.{handed}
use Rattle.search_top.specs.declared.ended.Ended.TheVariants.{Plain}
use Rattle.search_top.specs.Answers.{ready, not_ready}
use Rattle.search_top.proofs.Knowing.{found_has_calls}
use Rattle.search_top.proofs.explore.answer_explore.Goals as goal

pub returns-in_err-ready : goal.returns-in_err-ready
returns-in_err-ready g c = handed Plain _ _ (λ end h. not_ready end h refl) _ _ c.from_residual.ensures.1 c.in_err-ready.ensures.stops

pub ended_explored-requires : goal.ended_explored-requires
ended_explored-requires g c =
    let r = c.in_ok-ready.ready in
    found_has_calls r.task r.grounded c.in_ok-ready.ensures.ready.grounded c.in_ok-answer.answer.end (rw c.task.ensures at c.in_ok-answer.ensures.below)

pub returns : goal.returns
returns g c =
    let r = c.in_ok-ready.ready in
    ready r.task r.grounded c.in_ok-ready.ensures.task c.in_ok-ready.ensures.ready
    (record { answer = c.in_ok-answer.answer; is = rw c.task.ensures at c.in_ok-answer.ensures.explored; small = c.in_ok-end.ensures.small; told = c.in_ok-end.ensures.ended })
