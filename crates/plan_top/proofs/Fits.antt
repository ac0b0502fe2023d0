-- The horizons that a race tells of have formulas that are not too large.
use Rattle.std.proofs.Common.{◌≡◌, ◌≤◌, ℕ, zero, suc, ◌+◌, ◌-◌, ◌==◌, nat_le, Bool, true, false, List, [], ◌∷◌, ◌++◌, map, length, Option, Some, None, if◌then◌else◌, refl, sym, subst, arith}
use Rattle.std.specs.Prelude.{Contains}
use Rattle.std.specs.List.{AllByRecursion}
use Rattle.std.proofs.lemmas.Bool.Decides.{nat_tests}
use Rattle.std.proofs.lemmas.List.Elements.{All-contains, All-from_recursion}
use Rattle.horizon_rates.specs.Horizons.{listed}
use Rattle.step_encoding.specs.Limits.{planner_literals}
use Rattle.step_encoding.specs.Numbers.{literals_of}
use Rattle.race_outcome.specs.Ends.{LineView, EndView, lines_in}
use Rattle.race.specs.Input.{RaceInput}
use Rattle.race.specs.State.{LiveRun, RaceState, live_at, spent}
use Rattle.race.specs.Starts.{fitting, started, fill, filled, too_large}
use Rattle.race.specs.Grants.{grants, raised, advanced}
use Rattle.race.specs.Found.{first_found, open_line, lines}
use Rattle.race.specs.Clears.{any_refuted, passed_line, passed, staying, cleared}
use Rattle.race.specs.Race.{Stage, On, Ended, TooLarge, is_exhausted, settled, judged, round, next_stage, after_rounds, race_of}
use Rattle.race.proofs.published.Ends.{settled-exhausted, settled-else, judged-plan, judged-none}

module _ (input : RaceInput) where
  -- the formula of a horizon is not too large
  abbrev pub Fits : ℕ → Type 0
  Fits h = literals_of (input.formula h) ≤ planner_literals

  abbrev AreRuns : List LiveRun → Type 0
  AreRuns rs = AllByRecursion (λ r. Fits r.horizon) rs

  abbrev AreLines : List LineView → Type 0
  AreLines ls = AllByRecursion (λ line. Fits line.horizon) ls

  abbrev DoFit : RaceState → Type 0
  DoFit race = AreRuns race.live × AreLines race.closed

  fitting_fits : (o : Option ℕ) (k : ℕ) → fitting input o ≡ Some k → Fits k
  fitting_fits None k e = absurd (let never : None ≡ Some k = e in cc)
  fitting_fits (Some h) k e = step (nat_le (literals_of (input.formula h)) planner_literals) refl e
    where
      step : (b : Bool) → nat_le (literals_of (input.formula h)) planner_literals ≡ b → (if b then Some h else None) ≡ Some k → Fits k
      step true low e =
          let same : h ≡ k = cc in
          let here : Fits h = grind (arith, nat_tests, low) in
          subst Fits same here
      step false low e = absurd (let never : None ≡ Some k = e in cc)

  one_more : (rs : List LiveRun) (r : LiveRun) → AreRuns rs → Fits r.horizon → AreRuns (rs ++ r ∷ [])
  one_more [] r fit is = (is, tt)
  one_more (x ∷ rs) r fit is = (fit.0, one_more rs r fit.1 is)

  both : (ls ms : List LineView) → AreLines ls → AreLines ms → AreLines (ls ++ ms)
  both [] ms fit also = also
  both (line ∷ ls) ms fit also = (fit.0, both ls ms fit.1 also)

  opened : (rs : List LiveRun) → AreRuns rs → AreLines (map open_line rs)
  opened [] fit = tt
  opened (r ∷ rs) fit = (fit.0, opened rs fit.1)

  lines_are : (race : RaceState) → DoFit race → AreLines (lines race)
  lines_are race fit = both race.closed (map open_line race.live) fit.1 (opened race.live fit.0)

  -- ---- a round

  fill_fits : (n : ℕ) (race : RaceState) → DoFit race → DoFit (fill input n race)
  fill_fits zero race fit = fit
  fill_fits (suc n) race fit = step (λ k. fill_fits n (started input k race)) (fitting input (listed input.rates race.next)) refl
    where
      step : ((k : ℕ) → DoFit (started input k race) → DoFit (fill input n (started input k race))) → (o : Option ℕ) → fitting input (listed input.rates race.next) ≡ o
          → DoFit (elim o as (λ _. RaceState) [ Some k ↦ fill input n (started input k race) | None ↦ race ])
      step more None e = fit
      step more (Some k) e = more k (one_more race.live (live_at input k 0) fit.0 (fitting_fits (listed input.rates race.next) k e), fit.1)

  filled_fits : (race : RaceState) → DoFit race → DoFit (filled input race)
  unfolding filled
  filled_fits race fit = fill_fits (input.rates.width - length race.live) race fit

  raised_fits : (rs : List LiveRun) (gs : List ℕ) → AreRuns rs → AreRuns (raised input rs gs)
  raised_fits [] gs fit = tt
  raised_fits (r ∷ rs) [] fit = fit
  raised_fits (r ∷ rs) (g ∷ gs) fit = (fit.0, raised_fits rs gs fit.1)

  advanced_fits : (race : RaceState) → DoFit race → DoFit (advanced input race)
  unfolding advanced
  advanced_fits race fit = (raised_fits race.live (grants input.rates 0 (input.budget - spent race) (length race.live)) fit.0, fit.1)

  passed_fits : (rs : List LiveRun) → AreRuns rs → AreLines (passed rs)
  passed_fits [] fit = tt
  passed_fits (r ∷ rs) fit = step (any_refuted (r ∷ rs)) (passed_fits rs fit.1)
    where
      step : (b : Bool) → AreLines (passed rs) → AreLines (if b then passed_line r ∷ passed rs else [])
      step true rest = (fit.0, rest)
      step false rest = tt

  staying_fits : (rs : List LiveRun) → AreRuns rs → AreRuns (staying rs)
  staying_fits [] fit = tt
  staying_fits (r ∷ rs) fit = step (any_refuted (r ∷ rs)) (staying_fits rs fit.1)
    where
      step : (b : Bool) → AreRuns (staying rs) → AreRuns (if b then staying rs else r ∷ rs)
      step true rest = rest
      step false rest = fit

  cleared_fits : (race : RaceState) → DoFit race → DoFit (cleared race)
  unfolding cleared
  cleared_fits race fit = (staying_fits race.live fit.0, both race.closed (passed race.live) fit.1 (passed_fits race.live fit.0))

  -- ---- stages

  abbrev IsFit : Stage → Type 0
  IsFit (On race) = DoFit race
  IsFit (Ended end) = AreLines (lines_in end)
  IsFit (TooLarge h) = Unit {0}

  settled_fits : (race : RaceState) → DoFit race → (b d : Bool) → is_exhausted input race ≡ b → (spent race == input.budget) ≡ d → IsFit (settled input race)
  settled_fits race fit true d e f = subst IsFit (sym (settled-exhausted input race e)) (lines_are race fit)
  settled_fits race fit false true e f = subst IsFit (sym (settled-else input race true e f)) (lines_are race fit)
  settled_fits race fit false false e f = subst IsFit (sym (settled-else input race false e f)) fit

  judged_fits : (race : RaceState) → DoFit race → (o : Option LiveRun) → first_found race.live ≡ o → IsFit (judged input race)
  judged_fits race fit (Some r) e = subst IsFit (sym (judged-plan input race r e)) (lines_are race fit)
  judged_fits race fit None e =
      subst IsFit (sym (judged-none input race e))
      (settled_fits (cleared race) (cleared_fits race fit) (is_exhausted input (cleared race)) (spent (cleared race) == input.budget) refl refl)

  round_fits : (race : RaceState) → DoFit race → IsFit (round input race)
  unfolding round
  round_fits race fit = step (too_large input (filled input race))
    where
      step : (o : Option ℕ) → IsFit (elim o as (λ _. Stage) [ Some h ↦ TooLarge h | None ↦ judged input (advanced input (filled input race)) ])
      step (Some h) = tt
      step None =
          let ready = advanced input (filled input race) in
          judged_fits ready (advanced_fits (filled input race) (filled_fits race fit)) (first_found ready.live) refl

  next_fits : (s : Stage) → IsFit s → IsFit (next_stage input s)
  next_fits (On race) fit = round_fits race fit
  next_fits (Ended end) fit = fit
  next_fits (TooLarge h) fit = tt

  after_fits : (n : ℕ) → IsFit (after_rounds input n)
  unfolding after_rounds
  after_fits zero = (tt, tt)
  after_fits (suc n) = next_fits (after_rounds input n) (after_fits n)

  -- the horizon of each line of the end of a race has a formula that is not too large
  pub line_fits : (end : EndView) → race_of input ≡ Ended end → (line : LineView) → Contains (lines_in end) line → Fits line.horizon
  line_fits end ended line there =
      All-contains (λ l. Fits l.horizon) (lines_in end) line (All-from_recursion (λ l. Fits l.horizon) (lines_in end) (subst IsFit ended (after_fits (input.budget + 1)))) there
