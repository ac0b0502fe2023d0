-- What one poll of a run comes to.
use Rattle.std.proofs.Common.{arith, ◌≡◌, ℕ, ◌+◌, ◌-◌, ◌<◌, ◌≤◌, Bool, true, false, nat_lt, if◌then◌else◌, MatchBool, List, [], ◌∷◌, inl, inr, refl, sym, ap, ◌∙◌, subst}
use Rattle.std.proofs.lemmas.Bool.Decides.{nat_tests}
use Rattle.solver_pool.specs.declared.resume.Resume.{Ghosts}
use Rattle.solver_pool.specs.Resume.{IsMoved, SettledStays}
use Rattle.poll_run.specs.PolledRun.{next_granted, goes_on, AfterPolls, Passes}
use Rattle.poll_run.specs.Polls.{Ends, GoesNext, GoesOn}

module _ {R : Type 0} (g : Ghosts R) (by_state : (r : R) → g.unsettled_at (g.state_of r) ≡ g.unsettled_at r) where
  -- whether a run is unsettled is told by its origin and what it was granted
  told : (o : R) (k : ℕ) (r : R) → IsMoved g o k r → g.unsettled_at (g.moved o k) ≡ g.unsettled_at r
  told o k r moved = sym (by_state (g.moved o k)) ∙ (ap g.unsettled_at (sym moved) ∙ by_state r)

  -- a settled run is where any further target has it
  at_target : (target : ℕ) (o r : R) → ((k n : ℕ) → g.unsettled_at (g.moved o k) ≡ false → g.state_of (g.moved o (k + n)) ≡ g.state_of (g.moved o k))
      → g.granted_of r ≤ target → IsMoved g o (g.granted_of r) r → (g.unsettled_at r ≡ true → g.granted_of r ≡ target)
      → (b : Bool) → g.unsettled_at r ≡ b → IsMoved g o target r
  at_target target o r stays within moved all true e = subst (λ (k : ℕ). IsMoved g o k r) (all e) moved
  at_target target o r stays within moved all false e =
      let same : g.granted_of r + (target - g.granted_of r) ≡ target = omega (arith, within) in
      let settled : g.unsettled_at (g.moved o (g.granted_of r)) ≡ false = told o (g.granted_of r) r moved ∙ e in
      subst (λ (k : ℕ). IsMoved g o k r) same (moved ∙ sym (stays (g.granted_of r) (target - g.granted_of r) settled))

  comes_by : (slice target : ℕ) (x r : R) → GoesNext g slice target x r → g.granted_of x ≤ target → SettledStays g r → (¬ GoesOn g target r)
      → (b : Bool) → g.spoilt_at r ≡ b → Ends g target r
  comes_by slice target x r next within stays stop true e = inl e
  comes_by slice target x r next within stays stop false e =
      let granted = next.1 e in
      let now : g.granted_of r ≤ target = omega (arith, within, granted) in
      let all : g.unsettled_at r ≡ true → g.granted_of r ≡ target = λ more.
      let past : ¬ (g.granted_of r < target) = λ lt. stop (more, e, lt) in
      omega (arith, now, past) in
      let moved = subst (λ (o : R). IsMoved g o (g.granted_of r) r) (sym next.0.1) (next.2 e) in
      inr (e, at_target target (g.origin_of r) r stays now moved all (g.unsettled_at r) refl, now, all)

  -- a run that does not go on is spoilt or has come to its target
  pub comes : (slice target : ℕ) (x r : R) → GoesNext g slice target x r → g.granted_of x ≤ target → SettledStays g r → (¬ GoesOn g target r) → Ends g target r
  comes slice target x r next within stays stop = comes_by slice target x r next within stays stop (g.spoilt_at r) refl

  tells : (target k : ℕ) (o r : R) → IsMoved g o k r → g.granted_of r ≡ k → goes_on g target o k ≡ (if g.unsettled_at r then nat_lt (g.granted_of r) target else false)
  tells target k o r moved granted =
      ap (λ (b : Bool). if b then nat_lt k target else false) (told o k r moved) ∙ ap (λ (n : ℕ). if g.unsettled_at r then nat_lt n target else false) (sym granted)

  stops : (target n : ℕ) (b : Bool) → (b ≡ true → n < target → ⊥) → (if b then nat_lt n target else false) ≡ false
  stops target n true f = let h = f refl in grind (arith, nat_tests)
  stops target n false f = refl

  moved_on : (slice target : ℕ) (x r : R) → GoesNext g slice target x r → g.spoilt_at r ≡ false → IsMoved g (g.origin_of x) (next_granted slice target (g.granted_of x)) r
  moved_on slice target x r next sound = subst (λ (k : ℕ). IsMoved g (g.origin_of x) k r) (next.1 sound) (next.2 sound)

  -- the last poll
  pub last : (slice target : ℕ) (x r : R) → GoesNext g slice target x r → (¬ GoesOn g target r) → g.spoilt_at r ≡ false
      → Passes g slice target x (g.state_of x ∷ g.state_of r ∷ [])
  last slice target x r next stop sound =
      let k = next_granted slice target (g.granted_of x) in
      let moved = moved_on slice target x r next sound in
      let off : goes_on g target (g.origin_of x) k ≡ false = tells target k (g.origin_of x) r moved (next.1 sound) ∙ stops target (g.granted_of r) (g.unsettled_at r) (λ more lt. stop (more, sound, lt)) in
      (refl, (moved, subst (λ (b : Bool). MatchBool b (AfterPolls g slice target (g.origin_of x) k []) (◌≡◌ {A = List R} [] [])) (sym off) refl))
