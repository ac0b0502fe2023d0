use Rattle.race.specs.Input.{input_of}
use Rattle.race.proofs.racing.Racing.round.Given as goal

abbrev pub ghost-open : goal.ghost-open
ghost-open g a = input_of g.F.StepForm a.form.now a.settings.now
