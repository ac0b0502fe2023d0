use Rattle.std.proofs.Common.{◌≡◌, ◌+◌, ◌<◌, ℕ, slice_index_or}
use Rattle.solver_pool.specs.Job.{JobView}
use Rattle.solver_pool.proofs.jobs.are_rising.Given as goal

abbrev pub invariant-loop-job : goal.invariant-loop-job
invariant-loop-job g l = record {
  none : l.job-index ≡ 0 → l.least ≡ 0;
  last : (k : ℕ) (d : JobView g.row.R.Denot) → k + 1 ≡ l.job-index → l.least ≡ g.R.Resume.key_of (slice_index_or l.jobs k d).run + 1;
  below : (k : ℕ) (d : JobView g.row.R.Denot) → k < l.job-index → g.R.Resume.key_of (slice_index_or l.jobs k d).run < l.least;
  rising : (i j : ℕ) (d : JobView g.row.R.Denot) → i < j → j < l.job-index → g.R.Resume.key_of (slice_index_or l.jobs i d).run < g.R.Resume.key_of (slice_index_or l.jobs j d).run;
}
