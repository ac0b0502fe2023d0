-- Weights that pass the check rise in no step.
use Rattle.std.proofs.Common.{arith, ◌≡◌, ℕ, ◌+◌, ◌≤◌, List, [], ◌∷◌, Bool, true, false, not, ◌||◌, refl, ap, inl, inr}
use Rattle.std.specs.Prelude.{if◌then◌else◌}
use Rattle.std.proofs.lemmas.List.Sums.{sum_by-cons}
use Rattle.gt_core.specs.Literal.{opposite, holds, is_in}
use Rattle.gt_core.specs.Task.{Action, action}
use Rattle.gt_core.specs.Execution.{action_makes}
use Rattle.gt_core.proofs.published.Basics.{apart, and_split, and_both, not_true}
use Rattle.implied_literals.specs.Breaks.{is_add}
use Rattle.never_defs.specs.Sets.{weight_of}
use Rattle.never_defs.specs.After.{makes_perhaps, comes_perhaps, goes_surely}
use Rattle.never_defs.specs.Laws.{CertifiedWeightsHold}
use Rattle.never_defs.proofs.Truth.{after, came, both_hold, given_hold, state_propagated, state_has_no_pair}
use Rattle.never_defs.proofs.BackwardLaw.{perhaps_from_makes, surely_after}

-- a literal that holds after an action, and not before, comes perhaps
comes : (s : ℕ → Bool) (x : Action) (l : ℕ) → holds (after s x) l ≡ true → holds s l ≡ false → comes_perhaps (holds s) x l ≡ true
comes s x l t f =
    let c = came s x l t in
    let made : action_makes s x l ≡ true = elim c.from [ inl m ↦ m | inr h ↦ absurd (apart _ h.0 f) ] in
    and_both (not (holds s l)) _ (ap not f) (and_both (makes_perhaps (holds s) x l) _ (perhaps_from_makes s x l made) (wins (is_add l) refl c.wins))
  where
    wins : (b : Bool) → is_add l ≡ b → (is_add l ≡ false → action_makes s x (opposite l) ≡ false) → (b || not (action_makes s x (opposite l))) ≡ true
    wins true e w = refl
    wins false e w = ap not (w e)

-- a literal that surely goes holds before, and not after
goes : (s : ℕ → Bool) (x : Action) (l : ℕ) → goes_surely (holds s) x l ≡ true → (holds s l ≡ true) × (holds (after s x) l ≡ false)
goes s x l g =
    let y = and_split (holds s l) _ g in
    (y.0, not_true _ (λ t. both_hold (after s x) l t (surely_after s x (opposite l) y.1)))

-- one literal's part of the sums
part : (n g h c : Bool) (w : ℕ) → (g ≡ true → (h ≡ true) × (n ≡ false)) → (n ≡ true → h ≡ false → c ≡ true) → (if n then w else 0) + (if g then w else 0) ≤ (if h then w else 0) + (if c then w else 0)
part true true h c w gone come = absurd (apart _ refl (gone refl).1)
part false true true c w gone come = omega arith
part false true false c w gone come = absurd (apart _ (gone refl).0 refl)
part true false true c w gone come = omega arith
part true false false true w gone come = omega arith
part true false false false w gone come = absurd (apart _ (come refl refl) refl)
part false false h c w gone come = omega arith

one_more : (test : ℕ → Bool) (w : ℕ × ℕ) (weights : List (ℕ × ℕ)) → weight_of test (w ∷ weights) ≡ (if test w.0 then w.1 else 0) + weight_of test weights
one_more test w weights = sum_by-cons (λ (v : ℕ × ℕ). if test v.0 then v.1 else 0) w weights

module _ (s : ℕ → Bool) (x : Action) where
  sums : (weights : List (ℕ × ℕ)) → weight_of (holds (after s x)) weights + weight_of (goes_surely (holds s) x) weights ≤ weight_of (holds s) weights + weight_of (comes_perhaps (holds s) x) weights
  sums [] = omega arith
  sums (w ∷ weights) =
      let rest = sums weights in
      let here = part (holds (after s x) w.0) (goes_surely (holds s) x w.0) (holds s w.0) (comes_perhaps (holds s) x w.0) w.1 (goes s x w.0) (comes s x w.0) in
      omega (arith, rest, here, one_more (holds (after s x)) w weights, one_more (goes_surely (holds s) x) w weights, one_more (holds s) w weights, one_more (comes_perhaps (holds s) x) w weights)

pub weights_hold : CertifiedWeightsHold
weights_hold task known weights are = record {
  next = λ s a step.
      let x = action task a in
      let passes = are.next a step.runs.action (holds s) (state_propagated known [] (is_in x.precondition) s step.before tt (given_hold s x.precondition step.runs.able)) (state_has_no_pair s) in
      let all = sums s x weights in
      omega (arith, passes, all);
  goal = λ s knows goal. are.goal goal.hopeful (holds s) (state_propagated known [] (is_in task.goal) s knows tt (given_hold s task.goal goal.reached)) (state_has_no_pair s);
}
