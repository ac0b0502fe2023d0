use Rattle.std.proofs.Common.{refl, ap, List, ℕ}
use Rattle.plan_endings.proofs.published.Stopped.{handed}
use Rattle.plan_endings.specs.declared.ending.Ending.TheVariants.{Listing}
use Rattle.search_top.specs.declared.ended.Ended.TheVariants.{Plain}
use Rattle.search_top.specs.Answers.{ready, not_ready}
use Rattle.search_top.proofs.explore.answer_system.Goals as goal

pub returns-in_err-ready : goal.returns-in_err-ready
returns-in_err-ready c = handed Plain _ _ (λ end h. not_ready end h refl) _ _ c.from_residual.ensures.1 c.in_err-ready.ensures.stops

pub returns : goal.returns
returns c =
    let r = c.in_ok-ready.ready in
    ready r.task r.grounded c.in_ok-ready.ensures.task c.in_ok-ready.ensures.ready (ap (λ (t : List ℕ). Plain (Listing t)) (rw c.task.ensures at c.in_ok-text.ensures))
