use Rattle.std.proofs.Common.{refl, ap, subst, Err}
use Rattle.gt_core.specs.Task.{Task}
use Rattle.commands.specs.Known.{HasTooMany}
use Rattle.commands.specs.Judged.{Judges}
use Rattle.commands.specs.Tasks.{OnceRead, TellsOver, read}
use Rattle.commands.specs.Answers.{RefusesProof, AnswersVerify, unfit, beyond, spelled, not_checked, checked}
use Rattle.plan_endings.proofs.published.Stopped.{EndsAs-handed}
use Rattle.commands.proofs.Answered.{refused_handed}
use Rattle.commands.proofs.certify.answer_verify.Goals as goal

pub returns-in_err-task : goal.returns-in_err-task
returns-in_err-task g c =
    refused_handed c.args.domain.now c.args.problem.now (λ task. AnswersVerify task c.args.proof.now) c.in_err-task.field-0.0 c.from_residual.result c.from_residual.ensures.1 c.in_err-task.ensures.stops

pub returns-in_err-log : goal.returns-in_err-log
returns-in_err-log g c =
    EndsAs-handed (RefusesProof c.args.proof.now) (OnceRead c.args.domain.now c.args.problem.now (λ task. AnswersVerify task c.args.proof.now))
    (λ end k. read c.in_ok-task.task c.in_ok-task.ensures.task (unfit k))
    c.in_err-log.field-0.0 c.from_residual-in_err-log.result c.from_residual-in_err-log.ensures.1 c.in_err-log.ensures.stops

pub returns-in_err-grounded : goal.returns-in_err-grounded
returns-in_err-grounded g c =
    let task = c.in_ok-task.task in
    let log = c.in_ok-log.log in
    EndsAs-handed (TellsOver task) (OnceRead c.args.domain.now c.args.problem.now (λ task. AnswersVerify task c.args.proof.now))
    (λ end k. read task c.in_ok-task.ensures.task (beyond log.horizon log.log c.in_ok-log.ensures.spelled k))
    c.in_err-grounded.field-0.0 c.from_residual-in_err-grounded.result c.from_residual-in_err-grounded.ensures.1 c.in_err-grounded.ensures.stops

pub returns-in-Ok : goal.returns-in-Ok
returns-in-Ok g c =
    let task = c.in_ok-task.task in
    let log = c.in_ok-log.log in
    let ground = c.in_ok-grounded.grounded in
    read task c.in_ok-task.ensures.task
    (spelled log.horizon log.log ground c.in_ok-log.ensures.spelled (record { well = c.in_ok-task.ensures.well_formed; grounded = c.in_ok-grounded.ensures.grounded; fits = c.in_ok-grounded.ensures.within })
    (checked c.in-Ok.judged (subst (λ (t : Task). Judges t log.horizon log.log c.in-Ok.judged) c.task.ensures c.in-Ok.ensures.judged) c.check_ending.ensures))

pub returns-in-Err-Literals : goal.returns-in-Err-Literals
returns-in-Err-Literals g c =
    let task = c.in_ok-task.task in
    let log = c.in_ok-log.log in
    let ground = c.in_ok-grounded.grounded in
    let count = c.in-Err-Literals.count in
    read task c.in_ok-task.ensures.task
    (spelled log.horizon log.log ground c.in_ok-log.ensures.spelled (record { well = c.in_ok-task.ensures.well_formed; grounded = c.in_ok-grounded.ensures.grounded; fits = c.in_ok-grounded.ensures.within })
    (not_checked count (subst (λ (t : Task). HasTooMany t log.horizon count) c.task.ensures (c.in-Err-Literals.ensures.literals count (ap Err c.in-Err-Literals.field-0-is))) refl))

pub verify-requires-clause-horizon : goal.verify-requires-clause-horizon
verify-requires-clause-horizon g c κs within = c.in_ok-log.ensures.spelled.within
