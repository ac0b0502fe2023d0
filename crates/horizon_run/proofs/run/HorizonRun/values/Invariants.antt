use Rattle.std.proofs.Common.{◌≡◌, ◌++◌, ◌-◌}
use Rattle.cdcl_defs.specs.Sound.{truths_from}
use Rattle.horizon_run.specs.Run.{truths_of}
use Rattle.horizon_run.proofs.run.HorizonRun.values.Given as goal

abbrev pub invariant-loop-v : goal.invariant-loop-v
invariant-loop-v l = l.values.items ++ truths_from l.self.state.trail l.v (l.self.formula.variables - l.v) ≡ truths_of l.self.formula l.self.state
