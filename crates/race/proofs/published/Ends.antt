use Rattle.std.proofs.Common.{arith, ◌≡◌, ◌==◌, ℕ, zero, suc, List, [], ◌∷◌, Bool, true, false, not, map, Option, Some, None, is_some, if◌then◌else◌, slice_get, refl, sym, ap, ◌∙◌, subst}
use Rattle.std.proofs.lemmas.Bool.Decides.{nat_tests}
use Rattle.std.specs.List.{AllByRecursion}
use Rattle.horizon_rates.specs.Horizons.{listed}
use Rattle.horizon_rates.specs.Window.{IsEnded}
use Rattle.horizon_run.specs.Run.{RunView, truths_of}
use Rattle.race.specs.Clears.{cleared}
use Rattle.race.specs.Found.{first_found, lines}
use Rattle.race.specs.Grants.{advanced}
use Rattle.race.specs.Input.{RaceInput}
use Rattle.race.specs.Race.{On, Ended, TooLarge, is_exhausted, last_started, settled, judged, round}
use Rattle.race.specs.Runs.{live_run_of, horizon_of}
use Rattle.race.specs.Starts.{filled, too_large}
use Rattle.race.specs.State.{RaceState, LiveRun, spent}
use Rattle.race.specs.Tied.{race_state, IsTied}
use Rattle.race_outcome.specs.Ends.{LineView, Planned, Exhausted, Unfinished}
use Rattle.race.specs.declared.racing.Racing.{Racing}

pub equal-true : (m n : ℕ) → m ≡ n → (m == n) ≡ true
equal-true m n e = grind (arith, nat_tests)

equal-false : (m n : ℕ) → (m ≡ n → ⊥) → (m == n) ≡ false
equal-false m n e = grind (arith, nat_tests)

at-end : (input : RaceInput) (live : List LiveRun) (next : ℕ) (closed : List LineView) → live ≡ [] → listed input.rates next ≡ None
    → is_exhausted input (record { live = live; next = next; closed = closed }) ≡ true
at-end input [] next closed e none = ap (λ (o : Option ℕ). not (is_some o)) none
at-end input (r ∷ rs) next closed e none = cc

some-listed : (o : Option ℕ) → (o ≡ None → ⊥) → not (is_some o) ≡ false
some-listed (Some x) n = refl
some-listed None n = absurd (n refl)

not-at-end : (input : RaceInput) (live : List LiveRun) (next : ℕ) (closed : List LineView) → (live ≡ [] → listed input.rates next ≡ None → ⊥)
    → is_exhausted input (record { live = live; next = next; closed = closed }) ≡ false
not-at-end input [] next closed n = some-listed (listed input.rates next) (n refl)
not-at-end input (r ∷ rs) next closed n = refl

no-runs : (rs : List RunView) → map horizon_of rs ≡ [] → map live_run_of rs ≡ []
no-runs [] e = refl
no-runs (r ∷ rs) e = cc

no-horizons : (rs : List RunView) → map live_run_of rs ≡ [] → map horizon_of rs ≡ []
no-horizons [] e = refl
no-horizons (r ∷ rs) e = cc

-- where the window has ended the race is exhausted
pub ended : (input : RaceInput) (racing : Racing) → IsTied input racing → IsEnded racing.window → is_exhausted input (race_state racing) ≡ true
ended input racing t e =
    at-end input (map live_run_of racing.runs.items) racing.window.next (race_state racing).closed (no-runs racing.runs.items (sym t.live ∙ e.none_live)) (subst (λ rates. listed rates racing.window.next ≡ None) t.rates e.list_at_end)

pub unended : (input : RaceInput) (racing : Racing) → IsTied input racing → (IsEnded racing.window → ⊥)
    → is_exhausted input (race_state racing) ≡ false
unended input racing t n =
    not-at-end input (map live_run_of racing.runs.items) racing.window.next (race_state racing).closed
    (λ none last. n (record { list_at_end = subst (λ rates. listed rates racing.window.next ≡ None) (sym t.rates) last; none_live = t.live ∙ no-horizons racing.runs.items none }))

pub settled-exhausted : (input : RaceInput) (race : RaceState) → is_exhausted input race ≡ true
    → settled input race ≡ Ended (Exhausted (last_started input race) (lines race))
unfolding settled
settled-exhausted input race e = ap (λ (b : Bool). if b then Ended (Exhausted (last_started input race) (lines race)) else if spent race == input.budget then Ended (Unfinished (lines race)) else On race) e

pub settled-else : (input : RaceInput) (race : RaceState) (b : Bool) → is_exhausted input race ≡ false → (spent race == input.budget) ≡ b
    → settled input race ≡ (if b then Ended (Unfinished (lines race)) else On race)
unfolding settled
settled-else input race b e f =
    ap (λ (x : Bool). if x then Ended (Exhausted (last_started input race) (lines race)) else if spent race == input.budget then Ended (Unfinished (lines race)) else On race) e
    ∙ ap (λ (x : Bool). if x then Ended (Unfinished (lines race)) else On race) f

pub settled-unfinished : (input : RaceInput) (race : RaceState) → is_exhausted input race ≡ false → spent race ≡ input.budget
    → settled input race ≡ Ended (Unfinished (lines race))
settled-unfinished input race e f = settled-else input race true e (equal-true (spent race) input.budget f)

pub settled-on : (input : RaceInput) (race : RaceState) → is_exhausted input race ≡ false → (spent race ≡ input.budget → ⊥)
    → settled input race ≡ On race
settled-on input race e f = settled-else input race false e (equal-false (spent race) input.budget f)

pub judged-plan : (input : RaceInput) (race : RaceState) (r : LiveRun) → first_found race.live ≡ Some r
    → judged input race ≡ Ended (Planned r.horizon (input.steps r.horizon (truths_of (input.formula r.horizon) r.state)) (lines race))
unfolding judged
judged-plan input race r e = ap (λ (o : Option LiveRun). elim o [ Some x ↦ Ended (Planned x.horizon (input.steps x.horizon (truths_of (input.formula x.horizon) x.state)) (lines race)) | None ↦ settled input (cleared race) ]) e

pub judged-none : (input : RaceInput) (race : RaceState) → first_found race.live ≡ None → judged input race ≡ settled input (cleared race)
unfolding judged
judged-none input race e = ap (λ (o : Option LiveRun). elim o [ Some x ↦ Ended (Planned x.horizon (input.steps x.horizon (truths_of (input.formula x.horizon) x.state)) (lines race)) | None ↦ settled input (cleared race) ]) e

pub get-runner : (rs : List RunView) (i : ℕ) (run : RunView) → slice_get rs i ≡ Some run → slice_get (map live_run_of rs) i ≡ Some (live_run_of run)
get-runner [] i run e = cc
get-runner (r ∷ rs) zero run e = let same : r ≡ run = cc in ap (λ (x : RunView). Some (live_run_of x)) same
get-runner (r ∷ rs) (suc i) run e = get-runner rs i run e

pub round-too_large : (input : RaceInput) (race : RaceState) (h : ℕ) → too_large input (filled input race) ≡ Some h → round input race ≡ TooLarge h
unfolding round
round-too_large input race h e = ap (λ (o : Option ℕ). elim o [ Some x ↦ TooLarge x | None ↦ judged input (advanced input (filled input race)) ]) e

pub round-on : (input : RaceInput) (race : RaceState) → too_large input (filled input race) ≡ None
    → round input race ≡ judged input (advanced input (filled input race))
unfolding round
round-on input race e = ap (λ (o : Option ℕ). elim o [ Some x ↦ TooLarge x | None ↦ judged input (advanced input (filled input race)) ]) e

pub all-at : {X : Type 0} (P : X → Type 0) (xs : List X) (i : ℕ) (x : X) → AllByRecursion P xs → slice_get xs i ≡ Some x → P x
all-at P [] i x a e = cc
all-at P (y ∷ xs) zero x a e = let same : y ≡ x = cc in subst P same a.0
all-at P (y ∷ xs) (suc i) x a e = all-at P xs i x a.1 e

pub same-plan : {h h' : ℕ} {steps steps' : List (List ℕ)} {es es' : List LineView} → h ≡ h' → steps ≡ steps' → es ≡ es'
    → Ended (Planned h steps es) ≡ Ended (Planned h' steps' es')
same-plan a b c = rw (a, b, c) refl
