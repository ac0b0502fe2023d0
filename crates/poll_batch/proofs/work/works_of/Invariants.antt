use Rattle.std.proofs.Common.{◌≡◌, ◌++◌, map, false}
use Rattle.std.specs.List.{AllByRecursion}
use Rattle.race.specs.Runs.{run_at}
use Rattle.poll_batch.specs.own.Works.{at_targets, AreAtWork}
use Rattle.poll_batch.proofs.work.works_of.Given as goal

abbrev pub invariant-loop-job : goal.invariant-loop-job
invariant-loop-job l = record {
  whole : l.yielded ++ l.job-iterator.rest.items ≡ l.fn.jobs.items;
  left : AllByRecursion (λ j. j.run.spoilt ≡ false) l.job-iterator.rest.items;
  ends : at_targets l.works.items ≡ map run_at l.yielded;
  work : AreAtWork l.fn.slice l.works.items;
}
