use Rattle.std.proofs.Common.{refl, sym, ap}
use Rattle.gt_core.specs.Task.{Task}
use Rattle.plan_endings.proofs.published.Stopped.{handed}
use Rattle.search_top.specs.declared.ended.Ended.TheVariants.{Plain}
use Rattle.search_top.specs.Answers.{ready, not_ready}
use Rattle.search_top.proofs.Knowing.{literals_have_atoms}
use Rattle.search_top.proofs.never.answer_never.Goals as goal

pub returns-in_err-ready : goal.returns-in_err-ready
returns-in_err-ready g c = handed Plain _ _ (λ end h. not_ready end h refl) _ _ c.from_residual.ensures.1 c.in_err-ready.ensures.stops

pub ended_excluded-requires-clause-literals : goal.ended_excluded-requires-clause-literals
ended_excluded-requires-clause-literals g c =
    let r = c.in_ok-ready.ready in
    literals_have_atoms r.task r.grounded c.in_ok-ready.ensures.ready.grounded c.in_ok-by.by (rw c.task.ensures at c.in_ok-by.ensures.literals)

pub ended_excluded-requires-clause-facts : goal.ended_excluded-requires-clause-facts
ended_excluded-requires-clause-facts g c = sym (ap (λ (t : Task). t.facts) c.in_ok-ready.ensures.ready.grounded.task)

pub returns : goal.returns
returns g c =
    let r = c.in_ok-ready.ready in
    let by = rw c.task.ensures at c.in_ok-by.ensures.excluded in
    ready r.task r.grounded c.in_ok-ready.ensures.task c.in_ok-ready.ensures.ready
    (record { known = by.0; invariants = by.1; by = c.in_ok-by.by; is = by.2; told = c.in_ok-end.ensures })
