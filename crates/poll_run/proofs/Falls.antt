-- How many polls are left to futures that are polled in turn.
use Rattle.std.proofs.Common.{arith, ◌≡◌, ◌≢◌, ◌==◌, ℕ, zero, suc, ◌+◌, ◌-◌, ◌<◌, ◌≤◌, Bool, true, false, List, [], ◌∷◌, length, slice_set, slice_index_or, refl, sym, ap, ◌∙◌, subst}
use Rattle.std.specs.List.{AllByRecursion, Contains}
use Rattle.futures.specs.Joined.{IsLive, IsDone}
use Rattle.futures.specs.declared.future.made.maybe_done.MaybeDone.{MaybeDone}
use Rattle.futures.specs.declared.future.made.maybe_done.MaybeDone.TheVariants.{Future, Done, Gone}
use Rattle.poll_run.specs.own.Turns.{AreAllPlaces, slot_left, slots_left, Falls, FallAt}

same_test : (m n : ℕ) → (m == n) ≡ true → m ≡ n
same_test m n e = grind (arith, e)

other_test : (m n : ℕ) → (m == n) ≡ false → m ≢ n
other_test m n e s = grind (arith, e, s)

-- an element that is there, whatever is taken past the end
pub same_at : {X : Type 0} (xs : List X) (i : ℕ) (d e : X) → i < length xs → slice_index_or xs i d ≡ slice_index_or xs i e
same_at [] i d e lt = absurd (omega (arith, lt))
same_at (x ∷ xs) zero d e lt = refl
same_at (x ∷ xs) (suc i) d e lt = same_at xs i d e (omega (arith, lt))

set_here : {X : Type 0} (xs : List X) (i : ℕ) (x d : X) → i < length xs → slice_index_or (slice_set xs i x) i d ≡ x
set_here [] i x d lt = absurd (omega (arith, lt))
set_here (y ∷ xs) zero x d lt = refl
set_here (y ∷ xs) (suc i) x d lt = set_here xs i x d (omega (arith, lt))

set_there : {X : Type 0} (xs : List X) (i k : ℕ) (x d : X) → i ≢ k → slice_index_or (slice_set xs i x) k d ≡ slice_index_or xs k d
set_there [] zero k x d ne = refl
set_there [] (suc i) k x d ne = refl
set_there (y ∷ xs) zero zero x d ne = absurd (ne refl)
set_there (y ∷ xs) zero (suc k) x d ne = refl
set_there (y ∷ xs) (suc i) zero x d ne = refl
set_there (y ∷ xs) (suc i) (suc k) x d ne = set_there xs i k x d (λ e. ne (ap suc e))

module _ {F A : Type 0} (polls_left : F → ℕ) where
  abbrev pub left : MaybeDone F A → ℕ
  left s = slot_left polls_left s

  pub falls_not : (xs : List (MaybeDone F A)) (k : ℕ) → Falls polls_left xs xs k 0
  falls_not xs k d e lt = let s = ap left (same_at xs k d e lt) in omega (arith, s)

  -- one more slot is polled
  module _ (old now : List (MaybeDone F A)) (i : ℕ) (x w : MaybeDone F A) (lt : i < length now) (same : length now ≡ length old) (falls : left x ≤ left (slice_index_or now i w) - 1) where
    pub falls_more : (k by : ℕ) → by ≤ 1 → Falls polls_left old now k by → Falls polls_left old (slice_set now i x) k by
    falls_more k by small h d e below = at (i == k) refl
      where
        at : (b : Bool) → (i == k) ≡ b → left (slice_index_or (slice_set now i x) k d) ≤ left (slice_index_or old k e) - by
        at true t =
            let s = same_test i k t in
            let here : left (slice_index_or (slice_set now i x) k d) ≡ left x = ap (λ (j : ℕ). left (slice_index_or (slice_set now i x) j d)) (sym s) ∙ ap left (set_here now i x d lt) in
            let before : left (slice_index_or now i w) ≡ left (slice_index_or now k w) = ap (λ (j : ℕ). left (slice_index_or now j w)) s in
            let g = h w e below in
            omega (arith, here, before, g, falls)
        at false t =
            let there : left (slice_index_or (slice_set now i x) k d) ≡ left (slice_index_or now k d) = ap left (set_there now i k x d (other_test i k t)) in
            let g = h d e below in
            omega (arith, there, g)

    -- and has a poll less than before
    pub falls_here : Falls polls_left old now i 0 → Falls polls_left old (slice_set now i x) i 1
    falls_here h d e below =
        let here : left (slice_index_or (slice_set now i x) i d) ≡ left x = ap left (set_here now i x d lt) in
        let g = h w e below in
        omega (arith, here, g, falls)

    -- of the turns up to now, one more
    pub fell_more : (turns : List ℕ) (n : ℕ) → i ≡ slice_index_or turns n 0 → ((k : ℕ) → Falls polls_left old now k 0)
        → ((turn : ℕ) → turn < n → Falls polls_left old now (slice_index_or turns turn 0) 1)
        → (turn : ℕ) → turn < n + 1 → Falls polls_left old (slice_set now i x) (slice_index_or turns turn 0) 1
    fell_more turns n is h fell turn below = at (turn == n) refl
      where
        at : (b : Bool) → (turn == n) ≡ b → Falls polls_left old (slice_set now i x) (slice_index_or turns turn 0) 1
        at true t =
            let s : i ≡ slice_index_or turns turn 0 = is ∙ ap (λ (j : ℕ). slice_index_or turns j 0) (sym (same_test turn n t)) in
            subst (λ (j : ℕ). Falls polls_left old (slice_set now i x) j 1) s (falls_here (h i))
        at false t =
            let before : turn < n = let ne = other_test turn n t in grind (arith, ne, below) in
            falls_more (slice_index_or turns turn 0) 1 (omega arith) (fell turn before)

  -- ---- all of them

  no_more : (old new : List (MaybeDone F A)) → length new ≡ length old → ((k : ℕ) → Falls polls_left old new k 1) → slots_left polls_left new ≤ slots_left polls_left old
  no_more [] [] e h = omega arith
  no_more [] (y ∷ new) e h = absurd (omega (arith, e))
  no_more (x ∷ old) [] e h = absurd (omega (arith, e))
  no_more (x ∷ old) (y ∷ new) e h =
      let first : left y ≤ left x - 1 = h zero y x (omega arith) in
      let rest = no_more old new (omega (arith, e)) (λ k d f below. h (suc k) d f (omega (arith, below))) in
      omega (arith, first, rest)

  -- where not all are done, and each is polled, fewer polls are left
  pub fewer : (can_poll : F → Type 0) (old new : List (MaybeDone F A)) → length new ≡ length old → ((k : ℕ) → Falls polls_left old new k 1) → AllByRecursion (IsLive can_poll) new
      → (AllByRecursion IsDone new → ⊥) → slots_left polls_left new < slots_left polls_left old
  fewer can_poll old [] e h live undone = absurd (undone tt)
  fewer can_poll [] (y ∷ new) e h live undone = absurd (omega (arith, e))
  fewer can_poll (x ∷ old) (Future f ∷ new) e h live undone =
      let first : polls_left f + 1 ≤ left x - 1 = h zero (Future f) x (omega arith) in
      let rest = no_more old new (omega (arith, e)) (λ k d g below. h (suc k) d g (omega (arith, below))) in
      omega (arith, first, rest)
  fewer can_poll (x ∷ old) (Done y ∷ new) e h live undone =
      let rest = fewer can_poll old new (omega (arith, e)) (λ k d g below. h (suc k) d g (omega (arith, below))) live.1 (λ all. undone (tt, all)) in
      omega (arith, rest)
  fewer can_poll (x ∷ old) (Gone ∷ new) e h live undone = absurd live.0

  -- each place has a turn
  pub at_each : (old new : List (MaybeDone F A)) (turns : List ℕ) → AreAllPlaces (length old) turns → FallAt polls_left old new turns → (k : ℕ) → Falls polls_left old new k 1
  at_each old new turns places falls k d e below =
      let turn = places k below in
      let is : slice_index_or turns turn.0 0 ≡ k = sym (same_at turns turn.0 k 0 turn.1) ∙ turn.2 in
      subst (λ (j : ℕ). Falls polls_left old new j 1) is (falls.1 turn.0 turn.1) d e below
