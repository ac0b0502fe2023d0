use Rattle.std.proofs.Common.{◌≡◌, subst}
use Rattle.gt_core.specs.Task.{Task}
use Rattle.commands.specs.Stepping.{places_by, is_plan_by}
use Rattle.commands.specs.Tasks.{OnceGrounded, grounded}
use Rattle.race_outcome.specs.Ends.{end_view}
use Rattle.plan_report.specs.Report.{report_of}
use Rattle.plan_report.specs.Laws.{IsSmall}
use Rattle.plan_endings.specs.declared.ending.Ending.TheVariants.{Report}
use Rattle.commands.specs.Raced.{ComesTo, ended, outcome_of}
use Rattle.commands.specs.Answers.{AnswersPlan}
use Rattle.plan_endings.proofs.published.Stopped.{EndsAs-made}
use Rattle.commands.proofs.Answered.{stop_handed, race_handed, actions_below}
use Rattle.commands.proofs.answer.answer_plan.Goals as goal

pub returns-in_err-ready : goal.returns-in_err-ready
returns-in_err-ready g c =
    stop_handed c.args.domain.now c.args.problem.now (AnswersPlan c.args.steps c.args.settings.now) c.in_err-ready.field-0.0 c.from_residual.result c.from_residual.ensures.1 c.in_err-ready.ensures.stops

pub returns-in_err-end : goal.returns-in_err-end
returns-in_err-end g c =
    race_handed (places_by c.args.steps) (is_plan_by c.args.steps) c.args.domain.now c.args.problem.now c.in_ok-ready.ready.task c.in_ok-ready.ready.grounded c.in_ok-ready.ensures.task c.in_ok-ready.ensures.ready c.args.settings.now
    (IsSmall c.args.settings.now.budget) (λ task o. report_of task o c.args.settings.now.budget) c.in_err-end.field-0.0 c.from_residual-in_err-end.result c.from_residual-in_err-end.ensures.1 (rw c.task.ensures at c.in_err-end.ensures.stops)

pub reported-requires-clause-actions : goal.reported-requires-clause-actions
reported-requires-clause-actions g c =
    let ready = c.in_ok-ready.ready in
    let comes = subst (λ (t : Task). ComesTo (places_by c.args.steps) (is_plan_by c.args.steps) t c.args.settings.now c.in_ok-end.end) c.task.ensures c.in_ok-end.ensures.ended in
    actions_below ready.task ready.grounded c.in_ok-ready.ensures.ready.grounded c.in_ok-end.end comes.members

pub returns : goal.returns
returns g c =
    let settings = c.args.settings.now in
    let ready = c.in_ok-ready.ready in
    let end = c.in_ok-end.end in
    let comes = subst (λ (t : Task). ComesTo (places_by c.args.steps) (is_plan_by c.args.steps) t settings end) c.task.ensures c.in_ok-end.ensures.ended in
    EndsAs-made (λ e. IsSmall settings.budget (end_view end) × (e ≡ Report (outcome_of (end_view end)) (report_of ready.task ready.grounded settings.budget (end_view end)))) (OnceGrounded c.args.domain.now c.args.problem.now (AnswersPlan c.args.steps settings))
    (λ e told. grounded ready.task ready.grounded c.in_ok-ready.ensures.task c.in_ok-ready.ensures.ready (ended end comes told.0 told.1)) c.reported.result c.reported.ensures.told c.reported.ensures.memory
