use Rattle.std.proofs.Common.{refl, ap₂}
use Rattle.plan_endings.proofs.published.Stopped.{handed}
use Rattle.search_top.specs.declared.ended.Ended.TheVariants.{Plain, Walked}
use Rattle.search_top.specs.Answers.{ready, not_ready}
use Rattle.search_top.proofs.Runs.{end_below}
use Rattle.search_top.proofs.search.answer_search.Goals as goal

pub returns-in_err-ready : goal.returns-in_err-ready
returns-in_err-ready c = handed Plain _ _ (λ end h. not_ready end h refl) _ _ c.from_residual.ensures.1 c.in_err-ready.ensures.stops

pub report_of-requires : goal.report_of-requires
report_of-requires c =
    let r = c.in_ok-ready.ready in
    let a = c.in_ok-answer.answer in
    end_below r.task r.grounded _ a.states a.end c.in_ok-ready.ensures.ready.grounded (rw c.task-task.ensures at c.in_ok-answer.ensures.answer).ends

pub returns : goal.returns
returns c =
    let r = c.in_ok-ready.ready in
    let most = rw c.task-task.ensures at c.budget_of-most.ensures.budget in
    ready r.task r.grounded c.in_ok-ready.ensures.task c.in_ok-ready.ensures.ready
    (record {
      answer = c.in_ok-answer.answer;
      is = rw (c.task-task.ensures, most) at c.in_ok-answer.ensures.answer;
      least = rw c.task-task.ensures at c.in_ok-answer.ensures.least;
      small = rw most at c.in_ok-text.ensures.small;
      told = ap₂ Walked c.outcome_of.ensures (rw most at c.in_ok-text.ensures.text);
    })
