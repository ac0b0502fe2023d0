use Rattle.std.proofs.Common.{◌≡◌, ◌-◌, ◌^◌, min, take}
use Rattle.solver_pool.specs.own.Turns.{turns_in}
use Rattle.solver_pool.proofs.turns.turns_of.Given as goal

abbrev pub invariant-loop-job : goal.invariant-loop-job
invariant-loop-job g l = l.turns ≡ min (turns_in g.R.Resume (take l.job-index l.jobs)) (2 ^ 64 - 1)
