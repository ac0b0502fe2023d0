use Rattle.std.proofs.Common.{◌≡◌, ◌++◌, map}
use Rattle.race.specs.Runs.{run_at}
use Rattle.race.proofs.work.runs_of.Given as goal

abbrev pub invariant-loop-job : goal.invariant-loop-job
invariant-loop-job l = record {
  whole : l.yielded ++ l.job-iterator.rest.items ≡ l.fn.jobs.items;
  runs : l.runs.items ≡ map run_at l.yielded;
}
