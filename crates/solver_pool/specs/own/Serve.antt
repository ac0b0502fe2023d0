-- What one turn of a worker says of its pass and its answer.
use Rattle.std.specs.Prelude.{◌≡◌, ℕ, true, false, ◌+◌, ◌-◌, ◌<◌, min, ◌⊎◌}
use mathlib.Core.Option.{some}
use lib.ListN.{get_elem?}
use Rattle.solver_pool.specs.declared.resume.Resume.{Ghosts}
use Rattle.solver_pool.specs.declared.pass_view.PassView.{PassView}
use Rattle.solver_pool.specs.declared.pass_view.Note.{Note}
use Rattle.solver_pool.specs.declared.pass_view.BookEntry.{BookEntry}
use Rattle.solver_pool.specs.declared.serve.Served.{Served}
use Rattle.solver_pool.specs.declared.serve.Served.TheVariants.{Back, Done, Idle}
use Rattle.solver_pool.specs.Resume.{IsMoved}
use Rattle.solver_pool.specs.Job.{JobView, Differ, IsAtTarget, key_at}
use Rattle.solver_pool.specs.own.PassView.{note, with_put, with_take}
use Rattle.solver_pool.specs.own.Steps.{TookAll}

-- how many units a turn grants
abbrev pub part_of : ℕ → ℕ → ℕ → ℕ
part_of slice target granted = min slice (target - granted)

module _ {R : Type 0} (g : Ghosts R) where
  -- the take of a turn: the entry that the book gives for its key, and how many units the run had been granted
  pub record Turn (slice : ℕ) (before : PassView R) : Type 0 where
    pub place : ℕ
    pub entry : BookEntry R
    pub granted : ℕ
    pub at : get_elem? before.book place ≡ some entry
    pub differ : Differ key_at before.book

  -- the note of the take
  abbrev pub taken_note : (slice : ℕ) (before : PassView R) → Turn slice before → Note
  taken_note slice before t = note t.entry.key t.granted

  -- how many units the run has been granted after the turn
  abbrev pub granted_after : (slice : ℕ) (before : PassView R) → Turn slice before → ℕ
  granted_after slice before t = t.granted + part_of slice t.entry.target t.granted

  -- with so much granted a run is below its target and unsettled
  abbrev pub GoesBack : BookEntry R → ℕ → Type 0
  GoesBack e k = (k < e.target) × (g.unsettled_at (g.moved e.origin k) ≡ true)

  -- the run went as far as the turn grants, and does not go back; or it found no memory
  abbrev pub HasServed : (slice : ℕ) (before : PassView R) → Turn slice before → R → Type 0
  HasServed slice before t run =
      ((g.spoilt_at run ≡ false)
      × (g.granted_of run ≡ granted_after slice before t)
      × IsMoved g t.entry.origin (granted_after slice before t) run
      × (¬ GoesBack t.entry (granted_after slice before t)))
      ⊎ ((g.spoilt_at run ≡ true) × (g.granted_of run ≡ t.granted))

  -- the job of the answer is the one that was taken, after its turn
  pub record IsDone (slice : ℕ) (before : PassView R) (j : JobView R) (t : Turn slice before) : Type 0 where
    pub key : g.key_of j.run ≡ t.entry.key
    pub target : j.target ≡ t.entry.target
    pub origin : g.origin_of j.run ≡ t.entry.origin
    pub run : HasServed slice before t j.run

  -- a job that is spoilt or at its target
  abbrev pub IsEnded : JobView R → Type 0
  IsEnded j = (g.spoilt_at j.run ≡ true) ⊎ IsAtTarget g j

  -- Idle: the pass stays as it was. Back: one take and one put are noted. Done: one take is noted
  abbrev pub ServedSays : ℕ → PassView R → PassView R → Served R → Type 0
  ServedSays slice before after Idle = (after ≡ before) × TookAll before
  ServedSays slice before after Back =
      (t : Turn slice before) × GoesBack t.entry (granted_after slice before t)
      × (after ≡ with_put (with_take before (taken_note slice before t)) (note t.entry.key (granted_after slice before t)))
  ServedSays slice before after (Done j) =
      (t : Turn slice before) × (after ≡ with_take before (taken_note slice before t)) × IsDone slice before j t × IsEnded j

  -- a job after an advance by a slice: the run went so far, or there was no memory
  abbrev pub IsAdvanced : ℕ → JobView R → JobView R → Type 0
  IsAdvanced slice j k =
      ((g.spoilt_at k.run ≡ false)
      × (g.granted_of k.run ≡ g.granted_of j.run + part_of slice j.target (g.granted_of j.run))
      × IsMoved g (g.origin_of j.run) (g.granted_of k.run) k.run)
      ⊎ ((g.spoilt_at k.run ≡ true) × (g.granted_of k.run ≡ g.granted_of j.run))

  -- a job that goes back to the ring
  abbrev pub GoesOn : JobView R → Type 0
  GoesOn j = (g.unsettled_at j.run ≡ true) × (g.spoilt_at j.run ≡ false) × (g.granted_of j.run < j.target)
