-- The accounts of a worker: what it took and did not put back, it is done with.
use Rattle.std.specs.Prelude.{◌≡◌, ℕ, Bool, true, false, ◌+◌, List, [], length}
use Rattle.std.specs.List.{All, sum_by}
use Rattle.crossbeam_queue.specs.Passes.{view}
use Rattle.solver_pool.specs.declared.resume.Resume.{Ghosts}
use Rattle.solver_pool.specs.declared.pass_view.PassView.{PassView}
use Rattle.solver_pool.specs.declared.pass_view.BookEntry.{BookEntry}
use Rattle.solver_pool.specs.declared.ring.Ring.{Ring}
use Rattle.solver_pool.specs.declared.worker.Worker.{Worker}
use Rattle.solver_pool.specs.Job.{JobView, IsListed}
use Rattle.solver_pool.specs.own.PassView.{IsAlone}
use Rattle.solver_pool.specs.Ring.{IsRingPass}
use Rattle.solver_pool.specs.own.Serve.{IsEnded}
use Rattle.solver_pool.specs.own.Left.{Falls}

module _ {R : Type 0} (g : Ghosts R) where
  -- what the pass took, with what was begun, is what it put and what is done: each key as often
  abbrev pub IsBalanced : List ℕ → PassView R → List (JobView R) → Type 0
  IsBalanced begun v done = (f : ℕ → ℕ)
      → sum_by (λ n. f n.key) v.took + sum_by f begun
      ≡ sum_by (λ n. f n.key) v.put + sum_by (λ j. f (g.key_of j.run)) done

  -- a job of the book that is spoilt or at its target
  abbrev pub IsHanded : List (BookEntry R) → JobView R → Type 0
  IsHanded book j = IsListed g book j × IsEnded g j

  -- the accounts of a worker, or of the owner: `begun` is what it put when the ring was opened
  pub record IsAtWork (owner : Bool) (out : ℕ) (book : List (BookEntry R)) (begun : List ℕ) (w : Worker R g) : Type 0 where
    pub owns : (view w.pass.pass).owner ≡ owner
    pub counts : (view w.pass.pass).out ≡ out
    pub same : (view w.pass.pass).book ≡ book
    pub balanced : w.failed ≡ false → IsBalanced begun (view w.pass.pass) w.done.items
    pub handed : All (IsHanded book) w.done.items

  -- the accounts stay in order
  abbrev pub StaysAtWork : Worker R g → Worker R g → Type 0
  StaysAtWork k m =
      (owner : Bool) (out : ℕ) (book : List (BookEntry R)) (begun : List ℕ)
      → IsAtWork owner out book begun k → IsAtWork owner out book begun m

  -- a worker that has the owner's pass, while no other is out
  abbrev pub WorksAlone : Worker R g → Type 0
  WorksAlone w = IsAlone (view w.pass.pass)

  -- what it did alone left less to do
  abbrev pub WorkFalls : Worker R g → Worker R g → Type 0
  WorkFalls k m = Falls (view k.pass.pass) (view m.pass.pass)

  -- a worker with a pass of this ring
  abbrev pub IsWorkerOf : Ring R → Worker R g → Type 0
  IsWorkerOf ring w = IsRingPass g ring w.pass

  -- its pass is not the owner's
  abbrev pub HasWorkerPass : Worker R g → Type 0
  HasWorkerPass w = (view w.pass.pass).owner ≡ false

  -- a worker of this ring that has taken nothing
  abbrev pub IsNewWorker : Ring R → List (BookEntry R) → Worker R g → Type 0
  IsNewWorker ring book w = IsWorkerOf ring w × IsAtWork false 0 book [] w

  -- the owner gave passes to these workers
  abbrev pub StartsWorkers : Ring R → Worker R g → Worker R g → List (Worker R g) → Type 0
  StartsWorkers ring k m workers =
      (book : List (BookEntry R)) (begun : List ℕ) → IsAtWork true 0 book begun k
      → IsAtWork true (length workers) book begun m × All (IsNewWorker ring book) workers

  -- the owner took in a worker's pass and what it is done with
  abbrev pub TakesIn : Worker R g → Worker R g → Worker R g → Type 0
  TakesIn k w m =
      (out : ℕ) (book : List (BookEntry R)) (begun : List ℕ)
      → IsAtWork true (out + 1) book begun k → IsAtWork false 0 book [] w → IsAtWork true out book begun m

  -- the same of all workers
  abbrev pub TakesAllIn : Worker R g → List (Worker R g) → Worker R g → Type 0
  TakesAllIn k workers m =
      (book : List (BookEntry R)) (begun : List ℕ)
      → IsAtWork true (length workers) book begun k → All (IsAtWork false 0 book []) workers → IsAtWork true 0 book begun m
