use Rattle.plan_top.specs.own.Parts.{IsSound, IsFormOf}
use Rattle.poll_batch.proofs.published.Whole.{all-here, zip-pushed}
use Rattle.plan_top.proofs.races.forms_of.Goals as goal

pub form_of-requires : goal.form_of-requires
form_of-requires c = all-here IsSound c.args.runs.now c.loop-run.run-index c.run-item.result c.requires c.loop-run-test.true c.run-item.is

pub loop-run-preserved : goal.loop-run-preserved
loop-run-preserved c =
    zip-pushed IsFormOf c.args.runs.now c.loop-run.forms.items _ c.loop-run.run-index c.run-item.result _ c.in_ok-push.ensures.items c.loop-run-test.true c.run-item.is c.in_ok-form_of.ensures.form c.loop-run.invariant
