-- Jobs, and the book of those with which a ring was opened.
use Rattle.std.specs.Prelude.{◌≡◌, ℕ, true, false, ◌<◌, ◌≤◌, List, length}
use Rattle.std.specs.List.{All, AllAdjacentBelow}
use mathlib.Core.Option.{some}
use lib.ListN.{get_elem?}
use Rattle.solver_pool.specs.declared.resume.Resume.{Ghosts}
use Rattle.solver_pool.specs.declared.pass_view.Note.{Note}
use Rattle.solver_pool.specs.declared.pass_view.BookEntry.{BookEntry}
use Rattle.solver_pool.specs.Resume.{IsMoved}

-- a job as contracts see it
pub record JobView (R : Type 0) : Type 0 where
  pub run : R
  pub target : ℕ

-- items at two places have different keys
abbrev pub Differ : {A : Type 0} → (A → ℕ) → List A → Type 0
Differ {A} key l = (i j : ℕ) (a b : A) → get_elem? l i ≡ some a → get_elem? l j ≡ some b → key a ≡ key b → i ≡ j

-- the key of an entry of the book
abbrev pub key_at : {R : Type 0} → BookEntry R → ℕ
key_at e = e.key

-- no entry of the book has this key
abbrev pub IsNew : {R : Type 0} → List (BookEntry R) → ℕ → Type 0
IsNew {R} book h = (k : ℕ) (e : BookEntry R) → get_elem? book k ≡ some e → ¬ (e.key ≡ h)

module _ {R : Type 0} (g : Ghosts R) where
  -- the key of a job
  abbrev pub key_in : JobView R → ℕ
  key_in j = g.key_of j.run

  -- no run is spoilt
  abbrev pub AreSound : List (JobView R) → Type 0
  AreSound jobs = All (λ j. g.spoilt_at j.run ≡ false) jobs

  -- the run is sound and where its target has it; where it has more to do, it was granted exactly its target
  abbrev pub IsAtTarget : JobView R → Type 0
  IsAtTarget j = (g.spoilt_at j.run ≡ false) × IsMoved g (g.origin_of j.run) j.target j.run × (g.unsettled_at j.run ≡ true → g.granted_of j.run ≡ j.target)

  -- each key is below the next one's
  abbrev pub AreRising : List (JobView R) → Type 0
  AreRising jobs = AllAdjacentBelow (λ a b. g.key_of a.run < g.key_of b.run) jobs (length jobs)

  -- the note of a step that puts or takes the job
  abbrev pub note_of : JobView R → Note
  note_of j = record { key = g.key_of j.run; granted = g.granted_of j.run }

  -- the entry of the book that the job has
  abbrev pub entry_of : JobView R → BookEntry R
  entry_of j = record { key = g.key_of j.run; target = j.target; origin = g.origin_of j.run }

  -- an entry of the book is that of a job
  abbrev pub IsEntryOf : JobView R → BookEntry R → Type 0
  IsEntryOf j e = (e.key ≡ g.key_of j.run) × (e.target ≡ j.target) × (e.origin ≡ g.origin_of j.run)

  -- the job stands in the book: with its key, its target and its origin
  abbrev pub IsListed : List (BookEntry R) → JobView R → Type 0
  IsListed book j = (k : ℕ) × (e : BookEntry R) × (get_elem? book k ≡ some e) × IsEntryOf j e

  -- the job stands in the book, and its run is sound and where its origin and its grant have it, not past the target
  pub record Fits (book : List (BookEntry R)) (j : JobView R) : Type 0 where
    pub listed : IsListed book j
    pub moved : IsMoved g (g.origin_of j.run) (g.granted_of j.run) j.run
    pub within : g.granted_of j.run ≤ j.target
    pub sound : g.spoilt_at j.run ≡ false
