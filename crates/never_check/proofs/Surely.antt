-- What surely holds after an action where more literals are known before it.
use Rattle.std.proofs.Common.{◌≡◌, ◌==◌, ℕ, Bool, true, false, not, ◌&&◌, ◌||◌, refl, ◌⊎◌, inl, inr}
use Rattle.std.specs.Prelude.{if◌then◌else◌}
use Rattle.std.specs.List.{list_any, list_all}
use Rattle.gt_core.specs.Literal.{opposite}
use Rattle.gt_core.specs.Task.{Effect, Action}
use Rattle.gt_core.proofs.published.Basics.{passing, any_at, all_at, all_from, and_split, and_both, or_split, or_left, or_right, apart}
use Rattle.implied_literals.specs.Breaks.{is_add}
use Rattle.never_defs.specs.After.{makes_surely, makes_perhaps, holds_surely, comes_perhaps, goes_surely}

abbrev IsWithin : (ℕ → Bool) → (ℕ → Bool) → Type 0
IsWithin small large = (l : ℕ) → small l ≡ true → large l ≡ true

-- a test with less that is true is true with more, where its opposite has less
fewer : (b d : Bool) → (b ≡ true → d ≡ true) → not d ≡ true → not b ≡ true
fewer true true h n = cc
fewer true false h n = absurd (apart _ (h refl) refl)
fewer false d h n = refl

module _ (small large : ℕ → Bool) (within : IsWithin small large) (x : Action) where
  surely_more : (l : ℕ) → makes_surely small x l ≡ true → makes_surely large x l ≡ true
  surely_more l h =
      let p = passing (λ (e : Effect). (e.literal == l) && list_all small e.condition) x.effects h in
      let t = and_split (p.one.literal == l) _ p.passes in
      any_at (λ (e : Effect). (e.literal == l) && list_all large e.condition) x.effects p.one p.among
      (and_both (p.one.literal == l) _ t.0 (all_from large p.one.condition (λ m i. within m (all_at small p.one.condition m t.1 i))))

  perhaps_less : (l : ℕ) → makes_perhaps large x l ≡ true → makes_perhaps small x l ≡ true
  perhaps_less l h =
      let p = passing (λ (e : Effect). (e.literal == l) && not (list_any (λ m. large (opposite m)) e.condition)) x.effects h in
      let t = and_split (p.one.literal == l) _ p.passes in
      any_at (λ (e : Effect). (e.literal == l) && not (list_any (λ m. small (opposite m)) e.condition)) x.effects p.one p.among
      (and_both (p.one.literal == l) _ t.0 (fewer _ _ (λ s. let q = passing (λ m. small (opposite m)) p.one.condition s in any_at (λ m. large (opposite m)) p.one.condition q.one q.among (within (opposite q.one) q.passes)) t.1))

  -- what surely holds afterwards still does
  pub holds_more : (l : ℕ) → holds_surely small x l ≡ true → holds_surely large x l ≡ true
  holds_more l h = by (is_add l) h
    where
      stays : not (makes_perhaps small x (opposite l)) ≡ true → not (makes_perhaps large x (opposite l)) ≡ true
      stays n = fewer _ _ (perhaps_less (opposite l)) n

      by : (b : Bool) → (if b then makes_surely small x l || (small l && not (makes_perhaps small x (opposite l))) else (small l || makes_surely small x l) && not (makes_perhaps small x (opposite l))) ≡ true
          → (if b then makes_surely large x l || (large l && not (makes_perhaps large x (opposite l))) else (large l || makes_surely large x l) && not (makes_perhaps large x (opposite l))) ≡ true
      by true h = elim (or_split (makes_surely small x l) _ h) [
        | inl m ↦ or_left _ _ (surely_more l m)
        | inr k ↦ let t = and_split (small l) _ k in or_right (makes_surely large x l) _ (and_both (large l) _ (within l t.0) (stays t.1))
      ]
      by false h =
          let t = and_split (small l || makes_surely small x l) _ h in
          and_both (large l || makes_surely large x l) _ (elim (or_split (small l) _ t.0) [ inl s ↦ or_left _ _ (within l s) | inr m ↦ or_right (large l) _ (surely_more l m) ]) (stays t.1)

  -- less may come true
  pub comes_less : (l : ℕ) → comes_perhaps large x l ≡ true → comes_perhaps small x l ≡ true
  comes_less l h =
      let t = and_split (not (large l)) _ h in
      let u = and_split (makes_perhaps large x l) _ t.1 in
      and_both (not (small l)) _ (fewer _ _ (within l) t.0) (and_both (makes_perhaps small x l) _ (perhaps_less l u.0)
      (elim (or_split (is_add l) _ u.1) [ inl a ↦ or_left _ _ a | inr n ↦ or_right (is_add l) _ (fewer _ _ (surely_more (opposite l)) n) ]))

  -- what surely becomes false still does
  pub goes_more : (l : ℕ) → goes_surely small x l ≡ true → goes_surely large x l ≡ true
  goes_more l h = let t = and_split (small l) _ h in and_both (large l) _ (within l t.0) (holds_more (opposite l) t.1)

-- what surely holds afterwards held before or an effect has it
pub sure_from : (set : ℕ → Bool) (x : Action) (l : ℕ) → holds_surely set x l ≡ true → (set l ≡ true) ⊎ (list_any (λ (e : Effect). e.literal == l) x.effects ≡ true)
sure_from set x l h = by (is_add l) h
  where
    made : makes_surely set x l ≡ true → list_any (λ (e : Effect). e.literal == l) x.effects ≡ true
    made m =
        let p = passing (λ (e : Effect). (e.literal == l) && list_all set e.condition) x.effects m in
        any_at (λ (e : Effect). e.literal == l) x.effects p.one p.among (and_split (p.one.literal == l) _ p.passes).0

    by : (b : Bool) → (if b then makes_surely set x l || (set l && not (makes_perhaps set x (opposite l))) else (set l || makes_surely set x l) && not (makes_perhaps set x (opposite l))) ≡ true
        → (set l ≡ true) ⊎ (list_any (λ (e : Effect). e.literal == l) x.effects ≡ true)
    by true h = elim (or_split (makes_surely set x l) _ h) [ inl m ↦ inr (made m) | inr k ↦ inl (and_split (set l) _ k).0 ]
    by false h = elim (or_split (set l) _ (and_split (set l || makes_surely set x l) _ h).0) [ inl s ↦ inl s | inr m ↦ inr (made m) ]
