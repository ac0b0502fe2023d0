use Rattle.std.proofs.Common.{◌≡◌, ◌∙◌, ◌++◌, ℕ, List, length, ap, subst}
use Rattle.gt_core.specs.Task.{Task}
use Rattle.two_invariants.specs.Closed.{AreInvariants}
use Rattle.plan_report.specs.Listings.{order_text}
use Rattle.plan_endings.specs.declared.ending.Ending.TheVariants.{Listing}
use Rattle.commands.specs.Answers.{AnswersOrder}
use Rattle.commands.specs.Tasks.{OnceGrounded, grounded}
use Rattle.plan_endings.proofs.published.Stopped.{memory_handed}
use Rattle.commands.proofs.Answered.{stop_handed}
use Rattle.commands.proofs.answer.answer_order.Goals as goal

pub returns-in_err-ready : goal.returns-in_err-ready
returns-in_err-ready g c =
    stop_handed c.args.domain.now c.args.problem.now AnswersOrder c.in_err-ready.field-0.0 c.from_residual.result c.from_residual.ensures.1 c.in_err-ready.ensures.stops

pub push_order-requires-clause-published : goal.push_order-requires-clause-published
push_order-requires-clause-published g c = rw c.task-acts.ensures at c.in_ok-order.ensures.published

pub returns : goal.returns
returns g c =
    let ready = c.in_ok-ready.ready in
    let order = c.in_ok-order.order in
    let clauses = c.in_ok-pairs.pairs.clauses in
    let text : c.of.result ≡ order_text ready.task ready.grounded order (length clauses) = c.of.ensures ∙ c.in_ok-push_order.ensures ∙ ap (λ (xs : List ℕ). xs ++ order_text ready.task ready.grounded order (length clauses)) c.new-text.ensures.items in
    grounded ready.task ready.grounded c.in_ok-ready.ensures.task c.in_ok-ready.ensures.ready
    (clauses, order, record { known = subst (λ (t : Task). AreInvariants t clauses) c.task-acts.ensures c.in_ok-pairs.ensures.greatest; published = rw c.task-acts.ensures at c.in_ok-order.ensures.published }, ap Listing text)

pub returns-in_err-push_order : goal.returns-in_err-push_order
returns-in_err-push_order g c = memory_handed (OnceGrounded c.args.domain.now c.args.problem.now AnswersOrder) c.from_residual-in_err-push_order.result c.from_residual-in_err-push_order.ensures.1
