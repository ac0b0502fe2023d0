-- The rule of the ring: what the queue holds, and what each pass knows. It stands after each step of any pass.
use Rattle.std.specs.Prelude.{◌≡◌, ℕ, true, false, ◌+◌, ◌≤◌, List, [], ◌∷◌, length}
use Rattle.std.specs.List.{All, sum_by}
use mathlib.Core.Option.{some}
use lib.ListN.{get_elem?}
use Rattle.solver_pool.specs.declared.resume.Resume.{Ghosts}
use Rattle.solver_pool.specs.declared.pass_view.PassView.{PassView}
use Rattle.solver_pool.specs.declared.pass_view.Note.{Note}
use Rattle.solver_pool.specs.declared.pass_view.BookEntry.{BookEntry}
use Rattle.solver_pool.specs.Job.{JobView, Differ, Fits, key_at, note_of}
use Rattle.solver_pool.specs.own.PassView.{count_of, live_count}

-- a worker's pass: it has the owner's book, or is ended and has no notes, and it put each key at most as often as it took it
pub record IsWorkerView {R : Type 0} (book : List (BookEntry R)) (v : PassView R) : Type 0 where
  pub worker : v.owner ≡ false
  pub same : v.ended ≡ false → v.book ≡ book
  pub none : v.ended ≡ true → (v.put ≡ []) × (v.took ≡ [])
  pub back : (h : ℕ) → count_of h v.put ≤ count_of h v.took
  pub fewer : length v.put ≤ length v.took

module _ {R : Type 0} (g : Ghosts R) where
  -- of the jobs in the ring, the owner's pass and the workers' passes
  pub record IsLawful (jobs : List (JobView R)) (o : PassView R) (others : List (PassView R)) : Type 0 where
    pub owner : o.owner ≡ true
    -- the jobs in the ring and all takes are all puts, each key and grant as often
    pub all_notes : (f : Note → ℕ)
        → sum_by f o.put + sum_by (λ v. sum_by f v.put) others
        ≡ sum_by f o.took + sum_by (λ v. sum_by f v.took) others + sum_by (λ j. f (note_of g j)) jobs
    pub workers : (k : ℕ) (v : PassView R) → get_elem? others k ≡ some v → IsWorkerView o.book v
    -- the owner counts the passes that are out
    pub count : live_count others ≡ o.out
    -- the owner put at most 16 more than it took
    pub few : length o.put ≤ length o.took + 16
    pub differ : Differ key_at o.book
    pub fits : All (Fits g o.book) jobs

  -- the same of a list of passes, the first of which is the owner's
  abbrev pub RuleHolds : List (JobView R) → List (PassView R) → Type 0
  RuleHolds jobs [] = ⊥
  RuleHolds jobs (o ∷ others) = IsLawful jobs o others
