-- How much there is to do in a round.
use Rattle.std.specs.Prelude.{ℕ, ◌+◌, ◌-◌, min, count_by, nat_lt, List, if◌then◌else◌}
use Rattle.std.specs.List.{sum_by}
use Rattle.solver_pool.specs.declared.resume.Resume.{Ghosts}
use Rattle.solver_pool.specs.Job.{JobView}

module _ {R : Type 0} (g : Ghosts R) where
  -- the turns that the jobs may take together: one for each unit that is to be granted yet, and one for each job
  abbrev pub turns_in : List (JobView R) → ℕ
  turns_in jobs = sum_by (λ j. j.target - g.granted_of j.run + 1) jobs

  -- how many jobs are below their targets
  abbrev pub below_target : List (JobView R) → ℕ
  below_target jobs = count_by (λ j. nat_lt (g.granted_of j.run) j.target) jobs

-- how many workers are given a pass: as many as were asked for, but no more than there are jobs to do, and none where that would be one
abbrev pub passes_for : (workers jobs : ℕ) → ℕ
passes_for workers jobs = if nat_lt (min workers jobs) 2 then 0 else min workers jobs
