use Rattle.std.proofs.Common.{◌-◌}
use Rattle.race.specs.Input.{input_of}
use Rattle.race.specs.Tied.{IsBetween}
use Rattle.race.proofs.run.race.Given as goal

abbrev pub invariant-rounds : goal.invariant-rounds
invariant-rounds g l = IsBetween (input_of g.F.StepForm l.form l.settings) l.racing

abbrev pub decreases-rounds : goal.decreases-rounds
decreases-rounds g l = l.settings.budget - l.racing.rounds
