use Rattle.std.proofs.Common.{◌≡◌, ◌==◌, ℕ, ◌<◌, List, [], ◌∷◌, Bool, true, false, not, ◌&&◌, ◌||◌, refl, sym, ap, ◌∙◌, ◌⊎◌, inl, inr, subst, length}
use Rattle.std.specs.List.{list_any, list_all, AllByRecursion}
use Rattle.bit_sets.specs.Rows.{row_has}
use Rattle.gt_core.specs.Literal.{opposite}
use Rattle.gt_core.specs.Task.{Effect, Action, Task}
use Rattle.gt_core.proofs.published.Basics.{Among, passing, any_at, all_at, any_same, or_split, or_left, or_right, and_split, not_split, cases, same_test, test_same, each_at, each_from}
use Rattle.gt_core.proofs.published.Within.{among_at}
use Rattle.implied_literals.specs.Rows.{row_at, clause_in}
use Rattle.implied_literals.specs.Tested.{IsSetOf, EffectFits, ActionFits, AsksAmong, with_more, gives, may_take, loses_by, is_sure, breaks_with, breaks_by, act_at}
use Rattle.implied_literals.specs.Renewed.{asks, AreMoves, is_unmoved, IsSettled, IsTested}
use Rattle.implied_literals.specs.declared.known.Known.{Known}
use Rattle.implied_literals.specs.declared.again.Moved.{Moved}

-- ---- the literals that actions ask for

module _ (acts : List Action) (asked : ℕ → Bool) (is : (k : ℕ) → asked k ≡ list_any (λ x. asks x k) acts) where
  pub asked_among : AllByRecursion (AsksAmong asked) acts
  asked_among = each_from _ acts (λ x i. record {
    precondition = each_from _ x.precondition (λ l j. is l ∙ any_at (λ y. asks y l) acts x i (or_left _ _ (any_at (λ k. k == l) x.precondition l j (same_test l l refl))));
    conditions = each_from _ x.effects (λ e j. each_from _ e.condition (λ l h. is l ∙ any_at (λ y. asks y l) acts x i
        (or_right (list_any (λ k. k == l) x.precondition) _ (any_at (λ f. list_any (λ k. k == l) f.condition) x.effects e j (any_at (λ k. k == l) e.condition l h (same_test l l refl))))));
  })

  in_list : (size k : ℕ) (ls : List ℕ) → AllByRecursion (λ l. l < size) ls → list_any (λ l. l == k) ls ≡ true → k < size
  in_list size k ls fit t = let p = passing (λ l. l == k) ls t in subst (λ (n : ℕ). n < size) (test_same p.one k p.passes) (each_at (λ l. l < size) ls p.one fit p.among)

  pub asked_within : (size : ℕ) → AllByRecursion (ActionFits size) acts → IsSetOf size asked
  asked_within size fit k t =
      let p = passing (λ x. asks x k) acts (sym (is k) ∙ t) in
      by p.one (each_at (ActionFits size) acts p.one fit p.among) (or_split _ _ p.passes)
    where
      by : (x : Action) → ActionFits size x → (list_any (λ l. l == k) x.precondition ≡ true) ⊎ (list_any (λ e. list_any (λ l. l == k) e.condition) x.effects ≡ true) → k < size
      by x fits (inl h) = in_list size k x.precondition fits.precondition h
      by x fits (inr h) = let p = passing (λ e. list_any (λ l. l == k) e.condition) x.effects h in in_list size k p.one.condition (each_at (EffectFits size) x.effects p.one fits.effects p.among).condition p.passes

-- ---- what is not known otherwise breaks no other clauses

record Failing (p : ℕ → Bool) (xs : List ℕ) : Type 0 where
  one : ℕ
  among : Among one xs
  fails : p one ≡ false

failing : (p : ℕ → Bool) (xs : List ℕ) → list_all p xs ≡ false → Failing p xs
failing p [] f = absurd (let e : true ≡ false = f in cc)
failing p (x ∷ xs) f = by (cases (p x)) (failing p xs)
  where
    rest : (b c : Bool) → b ≡ true → (b && c) ≡ false → c ≡ false
    rest true c e g = g
    rest false c e g = cc

    by : (p x ≡ true) ⊎ (p x ≡ false) → (list_all p xs ≡ false → Failing p xs) → Failing p (x ∷ xs)
    by (inl t) more = (let r = more (rest (p x) (list_all p xs) t f) in record { one = r.one; among = inr r.among; fails = r.fails })
    by (inr n) more = record { one = x; among = inl refl; fails = n }

either_way : (a b t : Bool) → t ≡ true → (a || t) ≡ (b || t)
either_way true true t e = refl
either_way true false t e = sym e
either_way false true t e = e
either_way false false t e = refl

module _ (facts : ℕ) (asked : ℕ → Bool) (old new : Known) (moved : Moved) (moves : AreMoves asked old new moved) (x : Action) (among : AsksAmong asked x) (still : is_unmoved moved x ≡ true) where
  abbrev kept_literal : ℕ → Bool
  kept_literal l = not (row_has moved.rows l)

  abbrev told_more : Known → ℕ → Bool
  told_more known m = list_any (λ l. row_has (row_at known.rows.items l) m) x.precondition

  told_same : (ls : List ℕ) → list_all kept_literal ls ≡ true → (m : ℕ) → list_any (λ l. row_has (row_at new.rows.items l) m) ls ≡ list_any (λ l. row_has (row_at old.rows.items l) m) ls
  told_same ls t m = any_same (λ l. row_has (row_at new.rows.items l) m) (λ l. row_has (row_at old.rows.items l) m) ls (λ l i. moves.rows l m (not_split _ (all_at kept_literal ls l t i)))

  more_same : (ls : List ℕ) → list_all kept_literal ls ≡ true → (set : ℕ → Bool) → with_more new.rows.items set ls ≡ with_more old.rows.items set ls
  more_same ls t set = λ i m. set m || told_same ls t m i

  abbrev rows_part : Bool
  rows_part = list_all kept_literal x.precondition && list_all (λ e. list_all kept_literal e.condition) x.effects

  abbrev none_part : Bool
  none_part = not moved.none || not (list_all (row_has moved.lacking) x.precondition)

  before_same : list_all kept_literal x.precondition ≡ true
  before_same = (and_split _ _ (and_split rows_part none_part still).0).0

  condition_same : (e : Effect) → Among e x.effects → (set : ℕ → Bool) → with_more new.rows.items set e.condition ≡ with_more old.rows.items set e.condition
  condition_same e i set = more_same e.condition (all_at (λ f. list_all kept_literal f.condition) x.effects e (and_split _ _ (and_split rows_part none_part still).0).1 i) set

  none_same : (m : ℕ) → (row_has new.none m || told_more new m) ≡ (row_has old.none m || told_more new m)
  none_same m = by (or_split (not moved.none) _ (and_split rows_part none_part still).1)
    where
      covered : (p : ℕ) → Among p x.precondition → (row_has new.none m ≡ row_has old.none m) ⊎ (clause_in new.rows.items p m ≡ true) → (row_has new.none m || told_more new m) ≡ (row_has old.none m || told_more new m)
      covered p i (inl e) = ap (λ (b : Bool). b || told_more new m) e
      covered p i (inr t) = either_way (row_has new.none m) (row_has old.none m) (told_more new m) (any_at (λ l. row_has (row_at new.rows.items l) m) x.precondition p i t)

      by : (not moved.none ≡ true) ⊎ (not (list_all (row_has moved.lacking) x.precondition) ≡ true) → (row_has new.none m || told_more new m) ≡ (row_has old.none m || told_more new m)
      by (inl h) = ap (λ (b : Bool). b || told_more new m) (moves.none (not_split _ h) m)
      by (inr h) =
          let f = failing (row_has moved.lacking) x.precondition (not_split _ h) in
          covered f.one f.among (moves.lacking f.one m (each_at (λ l. asked l ≡ true) x.precondition f.one among.precondition f.among) f.fails)

  set_same : with_more new.rows.items (row_has new.none) x.precondition ≡ with_more old.rows.items (row_has old.none) x.precondition
  set_same = λ i m. (none_same m ∙ ap (λ (b : Bool). row_has old.none m || b) (told_same x.precondition before_same m)) i

  loses_same : (set : ℕ → Bool) (l : ℕ) → loses_by facts new.rows.items set x.effects x.effects l ≡ loses_by facts old.rows.items set x.effects x.effects l
  loses_same set l = any_same
      (λ e. (e.literal == opposite l) && may_take facts (with_more new.rows.items set e.condition) x.effects l)
      (λ e. (e.literal == opposite l) && may_take facts (with_more old.rows.items set e.condition) x.effects l)
      x.effects (λ e i. ap (λ (s : ℕ → Bool). (e.literal == opposite l) && may_take facts s x.effects l) (condition_same e i set))

  with_same : (set : ℕ → Bool) (l m : ℕ) (e : Effect) → Among e x.effects → breaks_with facts new.rows.items set x.effects l m e ≡ breaks_with facts old.rows.items set x.effects l m e
  with_same set l m e i =
      let here = with_more old.rows.items set e.condition in
      ap (λ (s : ℕ → Bool). (e.literal == opposite l) && (may_take facts s x.effects l && not (is_sure facts new.rows.items s x.effects m))) (condition_same e i set)
      ∙ ap (λ (b : Bool). (e.literal == opposite l) && (may_take facts here x.effects l && not ((here m || gives here x.effects m) && not b))) (loses_same here m)

  -- an action that knows what it knew breaks what it broke
  pub breaks_same : (l m : ℕ) → breaks_by facts new x l m ≡ breaks_by facts old x l m
  breaks_same l m =
      let before = with_more old.rows.items (row_has old.none) x.precondition in
      ap (λ (s : ℕ → Bool). list_any (breaks_with facts new.rows.items s x.effects l m) x.effects) set_same
      ∙ any_same (breaks_with facts new.rows.items before x.effects l m) (breaks_with facts old.rows.items before x.effects l m) x.effects (λ e i. with_same before l m e i)

-- ---- the actions that have to be tested again

-- the actions that are not listed know what they knew
pub tested_again : (task : Task) (asked : ℕ → Bool) (old new : Known) (moved : Moved) (clauses : List (List ℕ)) (todo : List ℕ) → AllByRecursion (AsksAmong asked) task.actions → AreMoves asked old new moved
    → ((a : ℕ) → a < length task.actions → IsSettled task.facts old clauses (act_at task.actions a)) → AllByRecursion (λ a. a < length task.actions) todo
    → ((a : ℕ) → a < length task.actions → (list_any (λ b. b == a) todo || is_unmoved moved (act_at task.actions a)) ≡ true) → IsTested task new clauses todo
tested_again task asked old new moved clauses todo among moves settled numbers left = record {
  numbers = numbers;
  settled = λ a lt. by a lt (or_split _ _ (left a lt));
}
  where
    by : (a : ℕ) → a < length task.actions → (list_any (λ b. b == a) todo ≡ true) ⊎ (is_unmoved moved (act_at task.actions a) ≡ true) → (list_any (λ b. b == a) todo ≡ true) ⊎ IsSettled task.facts new clauses (act_at task.actions a)
    by a lt (inl h) = inl h
    by a lt (inr u) = inr (λ l m.
        ap (λ (b : Bool). clause_in clauses l m && b) (breaks_same task.facts asked old new moved moves (act_at task.actions a) (each_at (AsksAmong asked) task.actions _ among (among_at task.actions a _ lt)) u l m)
        ∙ settled a lt l m)
