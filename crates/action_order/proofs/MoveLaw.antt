use Rattle.std.proofs.Common.{arith, ◌≡◌, ◌==◌, ℕ, suc, ◌+◌, ◌-◌, ◌<◌, ◌≤◌, ◌&&◌, List, [], ◌∷◌, length, get_or, Bool, true, false, Option, Some, refl, sym, ◌∙◌, ap, subst, cond, inl, inr, set, count_by}
use Rattle.std.specs.Prelude.{nat_lt}
use Rattle.std.proofs.lemmas.Bool.{cases_lt}
use Rattle.std.proofs.lemmas.Bool.Decides.{nat_tests}
use Rattle.std.proofs.lemmas.List.{get_or_read}
use Rattle.std.proofs.lemmas.List.Sums.{sum_by-set, sum_by-cons}
use Rattle.bit_sets.specs.Rows.{row_has, IsLeastFrom}
use Rattle.gt_core.specs.Literal.{is_in}
use Rattle.gt_core.proofs.published.Basics.{and_split, and_both, not_true, same_test}
use Rattle.action_order.specs.own.Graph.{leads, row_at, item}
use Rattle.action_order.specs.own.Walk.{mark_of, is_unseen, IsWalk, AllReach, IsLast, ends_with}
use Rattle.action_order.specs.declared.walk.Mark.{Mark}
use Rattle.action_order.specs.declared.walk.Mark.TheVariants.{Unseen, At}
use Rattle.action_order.proofs.published.Lists.{reaches_more, reaches_edge, last_in, last_greatest}
use Rattle.action_order.proofs.WalkLaw.{common_in}

-- What one move of the walk may rely on, and that the work that is left falls.

none_in : (xs : List ℕ) → length xs ≡ 0 → is_in xs 0 ≡ true → ⊥
none_in [] e i = let f : false ≡ true = i in cc
none_in (x ∷ xs) e i = omega arith

-- where no place has work, the stack is empty
pub walked : (targets : List (List ℕ)) (marks : List Mark) (stack starts work roots : List ℕ) → IsWalk targets marks stack starts work roots → length work ≡ 0 → length stack ≡ 0
walked targets marks stack starts work roots w none = elim (cases_lt 0 (length stack)) [
  | inl h ↦ absurd (none_in work none (w.starts_in_work 0 (w.bottom h)))
  | inr h ↦ omega arith
]

module _ (targets : List (List ℕ)) (marks : List Mark) (stack starts work roots : List ℕ) (w : IsWalk targets marks stack starts work roots) (place : ℕ) (last : IsLast work place) where
  abbrev edge : ℕ → ℕ → Bool
  edge = leads targets

  pub last_place : place < length stack
  last_place = w.work_within place (last_in work place last)

  -- the least vertex to which the place leads and that was not seen, as it was read
  pub next_found : (unseen : List ℕ) (vertex : ℕ) (row : List ℕ) (found : Option ℕ) → vertex ≡ get_or stack place vertex → row ≡ get_or targets vertex row → IsLeastFrom (λ k. row_has row k && row_has unseen k) 0 found → IsLeastFrom (λ k. edge (item stack place) k && row_has unseen k) 0 found
  next_found unseen vertex row found at is least =
      let v = get_or_read stack place vertex last_place at 0 in
      let below : vertex < length targets = let h = w.vertex place last_place in omega arith in
      subst (λ (xs : List ℕ). IsLeastFrom (λ k. row_has xs k && row_has unseen k) 0 found) (get_or_read targets vertex row below is [] ∙ ap (row_at targets) v) least

  pub next_leads : (unseen : List ℕ) (vertex : ℕ) (row : List ℕ) (found : Option ℕ) (u : ℕ) → vertex ≡ get_or stack place vertex → row ≡ get_or targets vertex row → IsLeastFrom (λ k. row_has row k && row_has unseen k) 0 found → found ≡ Some u → (edge (item stack place) u ≡ true) × (row_has unseen u ≡ true)
  next_leads unseen vertex row found u at is least some =
      let f = common_in _ 0 found u (next_found unseen vertex row found at is least) some in
      and_split (edge (item stack place) u) (row_has unseen u) f.1

  pub greatest_work : (y : ℕ) → is_in work y ≡ true → y ≤ place
  greatest_work = last_greatest work place w.work_rising last

  some_start : 0 < length starts
  some_start = elim (cases_lt 0 (length starts)) [
    | inl h ↦ h
    | inr h ↦ let lt = last_place in absurd (none_in starts (omega arith) (w.bottom (omega arith)))
  ]

  abbrev top_start : ℕ
  top_start = item starts (length starts - 1)

  top_last : IsLast starts top_start
  top_last = record { some = some_start; is = refl }

  -- every place of the stack reaches what the last place with work has an edge to
  pub all_reach : (v : ℕ) → edge (item stack place) v ≡ true → AllReach targets stack v
  all_reach v e p lt =
      let here_on = reaches_edge edge (item stack place) v e in
      let top_le : top_start ≤ place = greatest_work top_start (w.starts_in_work top_start (last_in starts top_start top_last)) in
      elim (cases_lt place p) [
        | inl h ↦
            let up = w.back p top_start lt (record { start = last_in starts top_start top_last; before = omega arith; last = λ r i lr. last_greatest starts top_start w.starts_rising top_last r i }) in
            reaches_more edge _ _ _ up (reaches_more edge _ _ _ (w.path top_start place top_le last_place) here_on)
        | inr h ↦ reaches_more edge _ _ _ (w.path p place h last_place) here_on
      ]

  -- a start that is not the last one is not the last place with work
  pub no_start : ends_with place starts ≡ false → is_in starts place ≡ false
  no_start e = not_true _ (λ i.
      let le = last_greatest starts top_start w.starts_rising top_last place i in
      let ge = greatest_work top_start (w.starts_in_work top_start (last_in starts top_start top_last)) in
      let same : (top_start == place) ≡ true = same_test top_start place (omega arith) in
      let some : nat_lt 0 (length starts) ≡ true = let s = some_start in grind (arith, nat_tests) in
      let both : ends_with place starts ≡ true = and_both (nat_lt 0 (length starts)) (top_start == place) some same in
      let f : true ≡ false = sym both ∙ e in cc)

-- the lists of marks with the same vertices that were not seen
pub same_unseen : (before after : List Mark) → length after ≡ length before → ((v : ℕ) → is_unseen (mark_of after v) ≡ is_unseen (mark_of before v)) → count_by is_unseen after ≡ count_by is_unseen before
same_unseen [] [] l h = refl
same_unseen [] (n ∷ after) l h = absurd (omega arith)
same_unseen (m ∷ before) [] l h = absurd (omega arith)
same_unseen (m ∷ before) (n ∷ after) l h =
    let r = same_unseen before after (omega arith) (λ v. h (suc v)) in
    let x : count_by is_unseen (m ∷ before) ≡ cond (is_unseen m) 1 0 + count_by is_unseen before = sum_by-cons (λ (m : Mark). cond (is_unseen m) 1 0) m before in
    let y : count_by is_unseen (n ∷ after) ≡ cond (is_unseen n) 1 0 + count_by is_unseen after = sum_by-cons (λ (m : Mark). cond (is_unseen m) 1 0) n after in
    let same : is_unseen n ≡ is_unseen m = h 0 in
    y ∙ ap (λ (b : Bool). cond b 1 0 + count_by is_unseen after) same ∙ ap (λ (k : ℕ). cond (is_unseen m) 1 0 + k) r ∙ sym x

fewer : (x y : ℕ) (b : Bool) → b ≡ true → x + cond b 1 0 ≡ y + 0 → y ≡ x + 1
fewer x y true e s = omega arith
fewer x y false e s = cc

-- one more vertex was seen
pub fewer_unseen : (marks : List Mark) (v place : ℕ) → v < length marks → mark_of marks v ≡ Unseen → count_by is_unseen marks ≡ count_by is_unseen (set marks v (At place)) + 1
fewer_unseen marks v place lt e =
    fewer (count_by is_unseen (set marks v (At place))) (count_by is_unseen marks) (is_unseen (mark_of marks v)) (ap is_unseen e)
    (sum_by-set (λ (m : Mark). cond (is_unseen m) 1 0) marks v (At place) Unseen lt)
