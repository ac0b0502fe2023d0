use Rattle.std.proofs.Common.{refl}
use Rattle.race.specs.Input.{input_of}
use Rattle.poll_batch.proofs.polled_race.PollRace.new.Goals as goal

pub invariant_of-result : goal.invariant_of-result
invariant_of-result g c = (c.requires.form_of, c.new.ensures.between (input_of g.F.StepForm c.args.form.now c.polled-settings.result) refl refl)
