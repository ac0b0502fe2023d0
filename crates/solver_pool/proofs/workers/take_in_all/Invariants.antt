use Rattle.std.proofs.Common.{◌≡◌, true, false, ℕ, List, length, vec_len, []}
use Rattle.std.specs.List.{All}
use Rattle.crossbeam_queue.specs.Passes.{view}
use Rattle.solver_pool.specs.Ring.{IsRingPass}
use Rattle.solver_pool.specs.declared.pass_view.BookEntry.{BookEntry}
use Rattle.solver_pool.specs.own.Worker.{IsAtWork, IsWorkerOf, HasWorkerPass}
use Rattle.solver_pool.proofs.workers.take_in_all.Given as goal

abbrev pub invariant-loop-worker : goal.invariant-loop-worker
invariant-loop-worker g l = record {
  pass : IsRingPass g.R.Resume l.ring l.owner.pass;
  owns : (view l.owner.pass.pass).owner ≡ true;
  theirs : All (IsWorkerOf g.R.Resume l.ring) l.workers.items;
  workers : All (HasWorkerPass g.R.Resume) l.workers.items;
  work : (book : List (BookEntry g.row.R.Denot)) (begun : List ℕ) → IsAtWork g.R.Resume true (length l.initial.workers.items) book begun l.initial.owner → All (IsAtWork g.R.Resume false 0 book []) l.initial.workers.items
      → IsAtWork g.R.Resume true (length l.workers.items) book begun l.owner × All (IsAtWork g.R.Resume false 0 book []) l.workers.items;
}

abbrev pub decreases-loop-worker : goal.decreases-loop-worker
decreases-loop-worker g l = vec_len l.workers
