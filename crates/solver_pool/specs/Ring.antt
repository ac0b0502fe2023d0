-- Rings, and whose passes are whose.
use Rattle.std.specs.Prelude.{◌≡◌, ℕ, true, false, ◌≤◌, List, [], map}
use Rattle.crossbeam_queue.specs.Passes.{view, IsPassOf}
use Rattle.solver_pool.specs.declared.resume.Resume.{Ghosts}
use Rattle.solver_pool.specs.declared.pass_view.PassView.{PassView}
use Rattle.solver_pool.specs.declared.ring.Ring.{Ring}
use Rattle.solver_pool.specs.declared.ring.Pass.{Pass}
use Rattle.solver_pool.specs.Job.{JobView, note_of, entry_of}

-- how many units a turn may grant
abbrev pub IsSlice : ℕ → Type 0
IsSlice slice = (1 ≤ slice) × (slice ≤ 10000)

module _ {R : Type 0} (g : Ghosts R) where
  -- a pass of this ring
  abbrev pub IsRingPass : Ring R → Pass R g → Type 0
  IsRingPass ring p = IsPassOf ring.queue p.pass

  -- the pass is the owner's of this ring
  abbrev pub IsOwnerPass : Ring R → Pass R g → Type 0
  IsOwnerPass ring p = IsRingPass ring p × ((view p.pass).owner ≡ true)

  -- the pass is a worker's of this ring
  abbrev pub IsWorkerPass : Ring R → Pass R g → Type 0
  IsWorkerPass ring p = IsRingPass ring p × ((view p.pass).owner ≡ false)

  -- the owner put these jobs and has them in its book, and took none and gave no pass out
  pub record IsOpened (jobs : List (JobView R)) (v : PassView R) : Type 0 where
    pub owns : v.owner ≡ true
    pub counts : v.out ≡ 0
    pub put : v.put ≡ map (note_of g) jobs
    pub took : v.took ≡ []
    pub book : v.book ≡ map (entry_of g) jobs
