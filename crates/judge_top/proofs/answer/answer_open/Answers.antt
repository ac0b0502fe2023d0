use Rattle.std.proofs.Common.{refl, subst, ap, Ok}
use Rattle.gt_core.specs.Task.{Task}
use Rattle.plan_tasks.specs.Stepping.{places_by, is_plan_by}
use Rattle.proof_verdict.specs.Verdict.{IsUnread}
use Rattle.judge_top.specs.Answers.{ready, too_large, unread, judged, model, OfKnown, IsFormula, TellsTooMany}
use Rattle.judge_top.proofs.Handed.{handed, files_handed, task_handed}
use Rattle.judge_top.proofs.Formulas.{has_none, is_verdict, calls_below}
use Rattle.judge_top.proofs.answer.answer_open.Goals as goal

pub returns-in_err-ready-clause-ended : goal.returns-in_err-ready-clause-ended
returns-in_err-ready-clause-ended g c = files_handed _ _ _ _ _ c.from_residual.ensures.1 c.in_err-ready.ensures.stops

pub returns-in_err-formula-in-Proof-clause-ended : goal.returns-in_err-formula-in-Proof-clause-ended
returns-in_err-formula-in-Proof-clause-ended g c =
    rw c.in-Proof.is (task_handed _ _ _ _ _ c.in_ok-ready.ensures.task c.in_ok-ready.ensures.ready (TellsTooMany (places_by c.args.steps) c.args.horizon c.in_ok-ready.ready.grounded.task) (λ end h. too_large end h refl) _ _ c.from_residual-in_err-formula-in-Proof.ensures.1 (rw c.task-task.ensures at c.in_err-formula-in-Proof.ensures.stops))

pub returns-in_err-verdict-in-Proof-clause-ended : goal.returns-in_err-verdict-in-Proof-clause-ended
returns-in_err-verdict-in-Proof-clause-ended g c =
    rw c.in-Proof.is (task_handed _ _ _ _ _ c.in_ok-ready.ensures.task c.in_ok-ready.ensures.ready (IsUnread (g.T.Tape.faults c.args.tape.now) (g.T.Tape.faults c.verdict_on.new.tape)) (λ end h. unread end h refl) _ _ c.from_residual-in_err-verdict-in-Proof.ensures.1 c.in_err-verdict-in-Proof.ensures.stops)

pub returns-in-Proof-clause-ended : goal.returns-in-Proof-clause-ended
returns-in-Proof-clause-ended g c =
    let r = c.in_ok-ready.ready in
    let f = c.in_ok-formula-in-Proof.formula in
    let known = subst (λ (t : Task). OfKnown t (IsFormula (places_by c.args.steps) (is_plan_by c.args.steps) c.args.horizon f)) c.task-task.ensures c.in_ok-formula-in-Proof.ensures.formula in
    rw c.in-Proof.is
    (ready r.task r.grounded c.in_ok-ready.ensures.task c.in_ok-ready.ensures.ready
    (judged c.in_ok-verdict-in-Proof.verdict c.ended.ensures (is_verdict c.args.steps c.args.horizon r.grounded.task f (g.T.Tape.given c.verdict_on.new.tape) c.in_ok-verdict-in-Proof.verdict known (c.in_ok-verdict-in-Proof.ensures.verdict c.requires.front)) (λ entries e. has_none c.args.steps c.args.horizon r.grounded.task f known (c.in_ok-verdict-in-Proof.ensures.refuted entries (ap Ok e)))))

pub returns-in_err-told-in-Model-clause-ended : goal.returns-in_err-told-in-Model-clause-ended
returns-in_err-told-in-Model-clause-ended g c =
    rw c.in-Model.is (task_handed _ _ _ _ _ c.in_ok-ready.ensures.task c.in_ok-ready.ensures.ready (TellsTooMany (places_by c.args.steps) c.args.horizon c.in_ok-ready.ready.grounded.task) (λ end h. too_large end h refl) _ _ c.from_residual-in_err-told-in-Model.ensures.1 (rw c.task-task.ensures at c.in_err-told-in-Model.ensures.stops))

pub ended_told-requires : goal.ended_told-requires
ended_told-requires g c =
    let r = c.in_ok-ready.ready in
    calls_below r.task r.grounded c.in_ok-ready.ensures.ready.grounded c.in_ok-told-in-Model.told (rw c.task-task.ensures at c.in_ok-told-in-Model.ensures.members)

pub returns-in_err-end-in-Model-clause-ended : goal.returns-in_err-end-in-Model-clause-ended
returns-in_err-end-in-Model-clause-ended g c =
    handed _ _ (λ end h. absurd h) c.in_err-end-in-Model.field-0.0 c.from_residual-in_err-end-in-Model.result c.from_residual-in_err-end-in-Model.ensures.1 c.in_err-end-in-Model.ensures.memory

pub returns-clause-ended : goal.returns-clause-ended
returns-clause-ended g c =
    let r = c.in_ok-ready.ready in
    let said = c.in_ok-told-in-Model.told in
    let known = rw c.task-task.ensures at c.in_ok-told-in-Model.ensures.told in
    rw c.in-Model.is (ready r.task r.grounded c.in_ok-ready.ensures.task c.in_ok-ready.ensures.ready (model said known c.in_ok-end-in-Model.ensures.small c.in_ok-end-in-Model.ensures.ended))
