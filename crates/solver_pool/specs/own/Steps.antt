-- What each step on the ring tells the pass that makes it.
use Rattle.std.specs.Prelude.{◌≡◌, ℕ, true, ◌+◌, ◌≤◌, List}
use Rattle.std.specs.List.{sum_by}
use Rattle.solver_pool.specs.declared.resume.Resume.{Ghosts}
use Rattle.solver_pool.specs.declared.pass_view.PassView.{PassView}
use Rattle.solver_pool.specs.declared.pass_view.Note.{Note}
use Rattle.solver_pool.specs.Job.{JobView, Differ, Fits, key_at, note_of, entry_of}
use Rattle.solver_pool.specs.own.PassView.{with_put, with_take, with_entry, MayPut}

-- each note stands in the one list as often as in the other, since the sums agree however the notes are weighed
abbrev pub SameNotes : List Note → List Note → Type 0
SameNotes put took = (f : Note → ℕ) → sum_by f put ≡ sum_by f took

-- where the pass is the owner's and no other is out, its takes are its puts, each as often
abbrev pub TookAll : {R : Type 0} → PassView R → Type 0
TookAll v = v.owner ≡ true → v.out ≡ 0 → SameNotes v.put v.took

-- where the pass is the owner's and no other is out, it took each note at most as often as it put it
abbrev pub TookPuts : {R : Type 0} → PassView R → Type 0
TookPuts v = v.owner ≡ true → v.out ≡ 0 → (f : Note → ℕ) → sum_by f v.took ≤ sum_by f v.put

module _ {R : Type 0} (g : Ghosts R) where
  -- where the pass is the owner's and no other is out, its puts are its takes and what the ring holds
  abbrev pub Settles : PassView R → List (JobView R) → Type 0
  Settles v jobs =
      v.owner ≡ true → v.out ≡ 0 → (f : Note → ℕ) → sum_by f v.put ≡ sum_by f v.took + sum_by (λ j. f (note_of g j)) jobs

  -- a take of a job: the pass notes it, the job is as the book has it, the pass may put it back, and its takes are of what was put
  abbrev pub Takes : PassView R → JobView R → PassView R → Type 0
  Takes v x w = (w ≡ with_take v (note_of g x)) × Fits g v.book x × MayPut w (g.key_of x.run) × Differ key_at v.book × TookPuts w

  -- a put of the opening: the pass notes it, and the book has one entry more
  abbrev pub Opens : PassView R → JobView R → PassView R → Type 0
  Opens v x w = w ≡ with_entry (with_put v (note_of g x)) (entry_of g x)

  -- a return: the pass notes it
  abbrev pub Puts : PassView R → JobView R → PassView R → Type 0
  Puts v x w = w ≡ with_put v (note_of g x)
