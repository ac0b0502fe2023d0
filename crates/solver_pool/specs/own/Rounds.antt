-- What a round gives back.
use Rattle.std.specs.Prelude.{◌≡◌, ℕ, false, List, [], map, IsPermutation}
use Rattle.std.specs.List.{All, sum_by}
use Rattle.crossbeam_queue.specs.Passes.{view}
use Rattle.solver_pool.specs.declared.resume.Resume.{Ghosts}
use Rattle.solver_pool.specs.declared.worker.Worker.{Worker}
use Rattle.solver_pool.specs.Job.{JobView, IsAtTarget, AreRising, entry_of}
use Rattle.solver_pool.specs.Ring.{IsOpened}
use Rattle.solver_pool.specs.own.Worker.{IsHanded}

module _ {R : Type 0} (g : Ghosts R) where
  -- each job once, with its key, its target and its origin; in rising order of key; each at its target
  pub record IsRound (jobs out : List (JobView R)) : Type 0 where
    pub once : IsPermutation (map (entry_of g) jobs) (map (entry_of g) out)
    pub rising : AreRising g out
    pub moved : All (IsAtTarget g) out

  -- the owner of a ring that was opened with these jobs, before it is done with any
  abbrev pub IsBeginning : List (JobView R) → Worker R g → Type 0
  IsBeginning jobs w = IsOpened g jobs (view w.pass.pass) × (w.done.items ≡ []) × (w.failed ≡ false)

  -- each key is done as often as there is a job of it, and each is a job of the book that is spoilt or at its target
  pub record AreServed (jobs done : List (JobView R)) : Type 0 where
    pub once : (f : ℕ → ℕ) → sum_by (λ j. f (g.key_of j.run)) done ≡ sum_by (λ j. f (g.key_of j.run)) jobs
    pub each : All (IsHanded g (map (entry_of g) jobs)) done
