use Rattle.std.proofs.Common.{◌≡◌, ◌∙◌, sym, ap}
use Rattle.poll_batch.specs.Batch.{IsFormed, IsKeptOf}
use Rattle.poll_batch.proofs.published.Whole.{zip-pushed, all-pushed}
use Rattle.poll_batch.proofs.anew.kept_of.Goals as goal

pub loop-race-preserved : goal.loop-race-preserved
loop-race-preserved g c =
    let formed : g.F.StepForm.task c.form-form.result.now ≡ c.task-task.result.now = ap g.F.StepForm.task c.form-form.ensures ∙ (c.task-task.ensures.form ∙ sym c.task-task.ensures.task) in
    record {
      of = zip-pushed (IsKeptOf g.F.StepForm) c.args.races.now c.loop-race.kept.items _ c.loop-race.race-index c.race-item.result _ c.in_ok-push.ensures.items c.loop-race-test.true c.race-item.is
          (c.form-form.ensures, c.settings-settings.ensures) c.loop-race.invariant.of;
      formed = all-pushed (IsFormed g.F.StepForm) c.loop-race.kept.items _ _ c.in_ok-push.ensures.items c.loop-race.invariant.formed formed;
    }
