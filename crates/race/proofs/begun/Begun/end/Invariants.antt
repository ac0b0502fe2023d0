use Rattle.race.specs.Input.{input_of}
use Rattle.race.proofs.begun.Begun.end.Given as goal

abbrev pub ghost-judge : goal.ghost-judge
ghost-judge g a = input_of g.F.StepForm a.form.now a.settings.now
