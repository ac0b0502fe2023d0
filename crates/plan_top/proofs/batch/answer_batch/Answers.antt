use Rattle.std.proofs.Common.{◌≡◌, ◌∙◌, sym, arith}
use Rattle.std.specs.List.{AllZip}
use Rattle.plan_endings.specs.Ending.{batch_of}
use Rattle.plan_top.specs.own.Parts.{AnswersRun, AnswersBatch, woven}
use Rattle.plan_top.proofs.Batches.{runs_open, runs_sound, woven_answers}
use Rattle.plan_top.proofs.Lists.{zip_length}
use Rattle.plan_endings.proofs.published.Stopped.{EndsAs-made}
use Rattle.plan_top.proofs.batch.answer_batch.Goals as goal

pub raced_all-requires-clause-sound : goal.raced_all-requires-clause-sound
raced_all-requires-clause-sound g c κs within =
    rw c.as_slice-runs.ensures.value (runs_sound c.args.domain.now c.args.problems.now c.in_ok-prepared.prepared.ended.items c.in_ok-prepared.prepared.runs.items c.in_ok-prepared.ensures.prepared)

pub raced_all-requires-clause-few : goal.raced_all-requires-clause-few
raced_all-requires-clause-few g c κs within =
    let left = runs_open c.args.domain.now c.args.problems.now c.in_ok-prepared.prepared.ended.items c.in_ok-prepared.prepared.runs.items c.in_ok-prepared.ensures.prepared in
    let most = left.2 in
    let few = c.requires.problems.1 in
    rw c.as_slice-runs.ensures.value (omega (arith, most, few))

pub reports_of-requires-clause-sound : goal.reports_of-requires-clause-sound
reports_of-requires-clause-sound g c =
    rw c.as_slice-runs.ensures.value (runs_sound c.args.domain.now c.args.problems.now c.in_ok-prepared.prepared.ended.items c.in_ok-prepared.prepared.runs.items c.in_ok-prepared.ensures.prepared)

pub joined-requires-clause-few : goal.joined-requires-clause-few
joined-requires-clause-few g c =
    let count = (runs_open c.args.domain.now c.args.problems.now c.in_ok-prepared.prepared.ended.items c.in_ok-prepared.prepared.runs.items c.in_ok-prepared.ensures.prepared).1 in
    let few = c.requires.problems.1 in
    rw c.into_ended.ensures (omega (arith, count, few))

pub joined-requires-clause-enough : goal.joined-requires-clause-enough
joined-requires-clause-enough g c =
    let runs = c.in_ok-prepared.prepared.runs.items in
    let left = (runs_open c.args.domain.now c.args.problems.now c.in_ok-prepared.prepared.ended.items runs c.in_ok-prepared.ensures.prepared).0 in
    let answers : AllZip (AnswersRun c.args.settings.now) runs c.in_ok-reports.reports.items = rw c.as_slice-runs.ensures.value at c.in_ok-reports.ensures.reports in
    rw c.into_ended.ensures (left ∙ sym (zip_length (AnswersRun c.args.settings.now) runs c.in_ok-reports.reports.items answers))

pub returns-clause-batch : goal.returns-clause-batch
returns-clause-batch g c =
    let settings = c.args.settings.now in
    let domain = c.args.domain.now in
    let problems = c.args.problems.now in
    let ended = c.in_ok-prepared.prepared.ended.items in
    let runs = c.in_ok-prepared.prepared.runs.items in
    let reports = c.in_ok-reports.reports.items in
    let answers : AllZip (AnswersRun settings) runs reports = rw c.as_slice-runs.ensures.value at c.in_ok-reports.ensures.reports in
    EndsAs-made (λ end. end ≡ batch_of (woven ended reports)) (AnswersBatch settings domain problems)
    (λ end e. (woven ended reports, woven_answers settings domain problems ended runs reports c.in_ok-prepared.ensures.prepared answers, e)) c.joined.result (rw c.into_ended.ensures at c.joined.ensures.batch) c.joined.ensures.memory
