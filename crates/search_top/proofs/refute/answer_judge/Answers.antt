use Rattle.std.proofs.Common.{refl}
use Rattle.plan_endings.proofs.published.Stopped.{handed, weaker}
use Rattle.search_top.specs.declared.ended.Ended.TheVariants.{Plain}
use Rattle.search_top.specs.Answers.{ready, not_ready}
use Rattle.search_top.proofs.refute.answer_judge.Goals as goal

pub returns-in_err-ready-clause-ended : goal.returns-in_err-ready-clause-ended
returns-in_err-ready-clause-ended g c = handed Plain _ _ (λ end h. not_ready end h refl) _ _ c.from_residual.ensures.1 c.in_err-ready.ensures.stops

pub returns-clause-ended : goal.returns-clause-ended
returns-clause-ended g c =
    let r = c.in_ok-ready.ready in
    weaker Plain _ _ (λ end h. ready r.task r.grounded c.in_ok-ready.ensures.task c.in_ok-ready.ensures.ready h) c.proof_in.result (rw c.task.ensures at c.proof_in.ensures.ended)
