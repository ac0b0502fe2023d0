use Rattle.std.proofs.Common.{arith}
use Rattle.plan_top.specs.own.Parts.{CameTo, AnswersRun}
use Rattle.poll_batch.proofs.published.Whole.{zip-pushed}
use Rattle.plan_top.proofs.Lists.{zip_here, zip_length}
use Rattle.plan_top.proofs.batch.reports_of.Goals as goal

pub bounds-ends-place : goal.bounds-ends-place
bounds-ends-place c =
    let same = zip_length (CameTo c.args.settings.now) c.args.runs.now c.args.ends.now c.requires.came in
    omega (arith, same, c.loop-place-test.true, c.loop-place.auto.place-end)

pub report_of-requires-clause-came : goal.report_of-requires-clause-came
report_of-requires-clause-came c =
    zip_here (CameTo c.args.settings.now) c.args.runs.now c.args.ends.now c.loop-place.place c.index-runs-place.result c.index-ends-place.result c.requires.came (omega (arith, c.loop-place-test.true, c.loop-place.auto.place-end))
    c.index-runs-place.is c.index-ends-place.is

pub loop-place-preserved : goal.loop-place-preserved
loop-place-preserved c =
    zip-pushed (AnswersRun c.args.settings.now) c.args.runs.now c.loop-place.reports.items _ c.loop-place.place c.index-runs-place.result _ c.in_ok-push.ensures.items (omega (arith, c.loop-place-test.true, c.loop-place.auto.place-end))
    c.index-runs-place.is c.in_ok-report_of.ensures.report c.loop-place.invariant
