-- Runs as the jobs of a round, and back.
use Rattle.std.proofs.Common.{arith, ◌≡◌, ℕ, zero, suc, ◌+◌, ◌<◌, ◌≤◌, false, List, [], ◌∷◌, ◌++◌, map, take, length, slice_index, slice_index_or, refl, sym, ap, ◌∙◌}
use Rattle.std.specs.List.{All, AllByRecursion}
use Rattle.std.specs.List.Sorted.{IsStrictlyIncreasing}
use Rattle.std.proofs.lemmas.List.Elements.{All-nil, All-cons}
use Rattle.solver_pool.specs.declared.resume.Resume.{Ghosts}
use Rattle.solver_pool.specs.declared.pass_view.BookEntry.{BookEntry}
use Rattle.solver_pool.specs.Job.{JobView, entry_of}
use Rattle.horizon_run.specs.Run.{RunView, moved_to}
use Rattle.race.specs.Runs.{horizon_of, jobs_at, run_at, moved_all, conflicts_of, Fits}

-- a job of the loop, with the grant at its place
abbrev pub job_with : RunView → List ℕ → ℕ → JobView RunView
job_with r gs place = record { run = r; target = r.granted + slice_index gs place }

pub jobs_at-push : (seen : List RunView) (r : RunView) (rest : List RunView) (gs : List ℕ) → Fits (seen ++ r ∷ rest) gs
    → jobs_at seen gs ++ job_with r gs (length seen) ∷ [] ≡ jobs_at (seen ++ r ∷ []) gs
jobs_at-push [] r rest [] f = absurd f
jobs_at-push [] r rest (g ∷ gs) f = refl
jobs_at-push (x ∷ seen) r rest [] f = absurd f
jobs_at-push (x ∷ seen) r rest (g ∷ gs) f = ap (λ (js : List (JobView RunView)). record { run = x; target = x.granted + g } ∷ js) (jobs_at-push seen r rest gs f.1)

-- the grant of a run is there, and is not too much
pub record HasGrant (r : RunView) (gs : List ℕ) (place : ℕ) : Type 0 where
  pub there : place < length gs
  pub few : r.granted + slice_index gs place ≤ 1073741824

pub has_grant : (seen : List RunView) (r : RunView) (rest : List RunView) (gs : List ℕ) → Fits (seen ++ r ∷ rest) gs → HasGrant r gs (length seen)
has_grant [] r rest [] f = absurd f
has_grant [] r rest (g ∷ gs) f = record { there = omega arith; few = f.0 }
has_grant (x ∷ seen) r rest [] f = absurd f
has_grant (x ∷ seen) r rest (g ∷ gs) f = let h = has_grant seen r rest gs f.1 in let t = h.there in record { there = omega (arith, t); few = h.few }

-- the same of a place, and of runs in two parts
pub grant_at : (runs seen : List RunView) (r : RunView) (rest : List RunView) (gs : List ℕ) (place : ℕ) → seen ++ r ∷ rest ≡ runs → Fits runs gs → place ≡ length seen → HasGrant r gs place
grant_at runs seen r rest gs place whole fits at = rw at (has_grant seen r rest gs (rw whole fits))

pub length-jobs : (rs : List RunView) (gs : List ℕ) → Fits rs gs → length (jobs_at rs gs) ≡ length rs
length-jobs [] gs f = refl
length-jobs (r ∷ rs) [] f = absurd f
length-jobs (r ∷ rs) (g ∷ gs) f = ap suc (length-jobs rs gs f.1)

pub all_sound : (rs : List RunView) (gs : List ℕ) → AllByRecursion (λ (r : RunView). r.spoilt ≡ false) rs
    → All (λ (j : JobView RunView). j.run.spoilt ≡ false) (jobs_at rs gs)
all_sound [] gs a = All-nil (λ (j : JobView RunView). j.run.spoilt ≡ false)
all_sound (r ∷ rs) [] a = All-nil (λ (j : JobView RunView). j.run.spoilt ≡ false)
all_sound (r ∷ rs) (g ∷ gs) a = All-cons (λ (j : JobView RunView). j.run.spoilt ≡ false) (record { run = r; target = r.granted + g }) (jobs_at rs gs) a.0 (all_sound rs gs a.1)

name_at : (rs : List RunView) (gs : List ℕ) (k : ℕ) (d : JobView RunView) → k < length (jobs_at rs gs)
    → slice_index (map horizon_of rs) k ≡ (slice_index_or (jobs_at rs gs) k d).run.formula.name
name_at [] gs k d lt = absurd (omega (arith, lt))
name_at (r ∷ rs) [] k d lt = absurd (omega (arith, lt))
name_at (r ∷ rs) (g ∷ gs) zero d lt = refl
name_at (r ∷ rs) (g ∷ gs) (suc k) d lt = name_at rs gs k d (omega (arith, lt))

length-names : (rs : List RunView) → length (map horizon_of rs) ≡ length rs
length-names [] = refl
length-names (r ∷ rs) = ap suc (length-names rs)

pub all_rising : (rs : List RunView) (gs : List ℕ) → Fits rs gs → IsStrictlyIncreasing (map horizon_of rs) → (k : ℕ) (d : JobView RunView)
    → k + 1 < length (jobs_at rs gs)
    → (slice_index_or (jobs_at rs gs) k d).run.formula.name < (slice_index_or (jobs_at rs gs) (k + 1) d).run.formula.name
all_rising rs gs f up k d lt =
    let n = length-jobs rs gs f in
    let m = length-names rs in
    let here = name_at rs gs k d (omega (arith, lt)) in
    let next = name_at rs gs (k + 1) d lt in
    let below = up k (omega (arith, lt, n, m)) in
    omega (arith, here, next, below)

-- the runs of jobs, with all of their targets granted
pub at_targets : (rs : List RunView) (gs : List ℕ) → Fits rs gs → map run_at (jobs_at rs gs) ≡ moved_all rs gs
at_targets [] gs f = refl
at_targets (r ∷ rs) [] f = absurd f
at_targets (r ∷ rs) (h ∷ gs) f = ap (λ (xs : List RunView). moved_to r (r.granted + h) ∷ xs) (at_targets rs gs f.1)

pub jobs_sound : (rs : List RunView) (gs : List ℕ) → AllByRecursion (λ (r : RunView). r.spoilt ≡ false) rs
    → AllByRecursion (λ (j : JobView RunView). j.run.spoilt ≡ false) (jobs_at rs gs)
jobs_sound [] gs a = tt
jobs_sound (r ∷ rs) [] a = tt
jobs_sound (r ∷ rs) (g ∷ gs) a = (a.0, jobs_sound rs gs a.1)

run_of_entry : BookEntry RunView → RunView
run_of_entry e = moved_to e.origin e.target

module _ (g : Ghosts RunView) (same : (r : RunView) (k : ℕ) → moved_to (g.origin_of r) k ≡ moved_to r k) where
  from_entries : (js : List (JobView RunView)) → map run_at js ≡ map run_of_entry (map (entry_of g) js)
  unfolding run_of_entry
  from_entries [] = refl
  from_entries (j ∷ js) = λ i. sym (same j.run j.target) i ∷ from_entries js i

  -- the runs that a round gives back
  pub runs_back : (rs : List RunView) (gs : List ℕ) (back : List (JobView RunView)) → Fits rs gs
      → map (entry_of g) back ≡ map (entry_of g) (jobs_at rs gs) → map run_at back ≡ moved_all rs gs
  runs_back rs gs back f e = from_entries back ∙ ap (map run_of_entry) e ∙ sym (from_entries (jobs_at rs gs)) ∙ at_targets rs gs f

pub conflicts-take : (rs : List RunView) (i : ℕ) (r : RunView) → i < length rs → r ≡ slice_index_or rs i r
    → conflicts_of (take (suc i) rs) ≡ conflicts_of (take i rs) + r.state.conflicts
conflicts-take [] i r lt e = absurd (omega (arith, lt))
conflicts-take (x ∷ rs) zero r lt e = let same = ap (λ (y : RunView). y.state.conflicts) e in omega (arith, same)
conflicts-take (x ∷ rs) (suc i) r lt e = let rest = conflicts-take rs i r (omega (arith, lt)) e in omega (arith, rest)
