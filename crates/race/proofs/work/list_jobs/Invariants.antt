use Rattle.std.proofs.Common.{◌≡◌, ◌++◌, length, vec_len}
use Rattle.race.specs.Runs.{jobs_at}
use Rattle.race.proofs.work.list_jobs.Given as goal

abbrev pub invariant-loop-run : goal.invariant-loop-run
invariant-loop-run l = record {
  whole : l.yielded ++ l.run-iterator.rest.items ≡ l.fn.runs.items;
  many : vec_len l.jobs ≡ length l.yielded;
  jobs : l.jobs.items ≡ jobs_at l.yielded l.grants;
}
