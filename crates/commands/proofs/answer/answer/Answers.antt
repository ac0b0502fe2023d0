use Rattle.std.proofs.Common.{refl, ap}
use Rattle.requests.specs.Seen.{seen}
use Rattle.plan_tasks.specs.Named.{third_bytes}
use Rattle.plan_endings.proofs.published.Stopped.{EndsAs-weaker}
use Rattle.commands.proofs.Answered.{no_third, third_fits}
use Rattle.commands.proofs.answer.answer.Goals as goal

pub returns-in-Plan : goal.returns-in-Plan
returns-in-Plan g c =
    let settings = c.in-Plan.settings in
    let none = no_third c.args.files.now.domain c.args.files.now.problem (third_bytes c.args.files.now.third) (rw c.in-Plan.is at c.requires.count) in
    EndsAs-weaker _ _ (λ end h. rw (c.in-Plan.is, none) (settings, refl, h)) c.answer_plan.result (rw (c.as_slice-domain.ensures, c.as_slice-problem.ensures) at c.answer_plan.ensures)

pub returns-in-Ground : goal.returns-in-Ground
returns-in-Ground g c =
    let none = no_third c.args.files.now.domain c.args.files.now.problem (third_bytes c.args.files.now.third) (rw c.in-Ground.is at c.requires.count) in
    EndsAs-weaker _ _ (λ end h. rw (c.in-Ground.is, none) h) c.answer_ground.result (rw (c.as_slice-domain.ensures, c.as_slice-problem.ensures) at c.answer_ground.ensures)

pub returns-in-Order : goal.returns-in-Order
returns-in-Order g c =
    let none = no_third c.args.files.now.domain c.args.files.now.problem (third_bytes c.args.files.now.third) (rw c.in-Order.is at c.requires.count) in
    EndsAs-weaker _ _ (λ end h. rw (c.in-Order.is, none) h) c.answer_order.result (rw (c.as_slice-domain.ensures, c.as_slice-problem.ensures) at c.answer_order.ensures)

pub answer_check-requires-clause-plan_fits : goal.answer_check-requires-clause-plan_fits
answer_check-requires-clause-plan_fits g c = third_fits _ _ _ _ _ _ (ap seen c.in-Check.is) c.third_bytes.ensures c.requires.fit

pub returns-in-Check : goal.returns-in-Check
returns-in-Check g c =
    EndsAs-weaker _ _ (λ end h. rw (c.in-Check.is, c.third_bytes.ensures) h) c.answer_check.result (rw (c.as_slice-domain.ensures, c.as_slice-problem.ensures) at c.answer_check.ensures)

pub returns-in-Prove : goal.returns-in-Prove
returns-in-Prove g c =
    let none = no_third c.args.files.now.domain c.args.files.now.problem (third_bytes c.args.files.now.third) (rw c.in-Prove.is at c.requires.count) in
    EndsAs-weaker _ _ (λ end h. rw (c.in-Prove.is, none) h) c.answer_prove.result (rw (c.as_slice-domain.ensures, c.as_slice-problem.ensures) at c.answer_prove.ensures)

pub answer_verify-requires-clause-proof_fits : goal.answer_verify-requires-clause-proof_fits
answer_verify-requires-clause-proof_fits g c κs within = third_fits _ _ _ _ _ _ (ap seen c.in-Verify.is) c.third_bytes-in-Verify.ensures c.requires.fit

pub returns-in-Verify : goal.returns-in-Verify
returns-in-Verify g c =
    EndsAs-weaker _ _ (λ end h. rw (c.in-Verify.is, c.third_bytes-in-Verify.ensures) h) c.answer_verify.result (rw (c.as_slice-domain.ensures, c.as_slice-problem.ensures) at c.answer_verify.ensures)
