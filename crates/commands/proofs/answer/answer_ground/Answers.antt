use Rattle.std.proofs.Common.{◌≡◌, ◌∙◌, ◌++◌, ℕ, List, ap}
use Rattle.plan_report.specs.Listings.{ground_text}
use Rattle.plan_endings.specs.declared.ending.Ending.TheVariants.{Listing}
use Rattle.commands.specs.Tasks.{grounded}
use Rattle.commands.specs.Answers.{AnswersGround}
use Rattle.commands.proofs.Answered.{stop_handed}
use Rattle.commands.proofs.answer.answer_ground.Goals as goal

pub returns-in_err-ready : goal.returns-in_err-ready
returns-in_err-ready c =
    stop_handed c.args.domain.now c.args.problem.now AnswersGround c.in_err-ready.field-0.0 c.from_residual.result c.from_residual.ensures.1 c.in_err-ready.ensures.stops

pub returns : goal.returns
returns c =
    let ready = c.in_ok-ready.ready in
    let text : c.of.result ≡ ground_text ready.task ready.grounded = c.of.ensures ∙ c.in_ok-push_ground.ensures ∙ ap (λ (xs : List ℕ). xs ++ ground_text ready.task ready.grounded) c.new-text.ensures.items in
    grounded ready.task ready.grounded c.in_ok-ready.ensures.task c.in_ok-ready.ensures.ready (ap Listing text)
