use Rattle.std.proofs.Common.{arith, ◌≡◌, ◌==◌, ℕ, suc, ◌+◌, ◌<◌, List, [], ◌∷◌, length, get_or, drop, Bool, true, not, ◌&&◌, ◌||◌, refl, ap, sym, ◌∙◌}
use Rattle.std.specs.List.{list_any, list_all}
use Rattle.std.proofs.Math.Bool.{or-false}
use Rattle.gt_core.specs.Literal.{opposite}
use Rattle.gt_core.specs.Task.{Effect}
use Rattle.gt_core.proofs.published.Basics.{Among, any_same, all_at, test_same}
use Rattle.implied_literals.specs.Breaks.{is_add}
use Rattle.implied_literals.specs.Tested.{with_more, has_no_pair, gives, may_take, loses_by, is_sure, breaks_with}
use Rattle.two_invariants.specs.own.Plain.{adds_plainly, takes_plainly, breaks_plainly}
use Rattle.two_invariants.proofs.Steps.{any_rest, opposite_test}
use Rattle.two_invariants.proofs.Grouping.{and_one}

-- What effects without condition break.

-- one more element of a list, where another test holds too
pub broken_more : {A : Type 0} (p : A → Bool) (xs : List A) (i : ℕ) (x : A) (clause s before after : Bool) → i < length xs → x ≡ get_or xs i x → after ≡ (before || (clause && (p x && s)))
    → (after || (clause && (list_any p (drop (i + 1) xs) && s))) ≡ (before || (clause && (list_any p (drop i xs) && s)))
broken_more p xs i x clause s before after lt at is =
    ap (λ (b : Bool). b || (clause && (list_any p (drop (i + 1) xs) && s))) is
    ∙ spread before clause (p x) (list_any p (drop (i + 1) xs)) s
    ∙ ap (λ (b : Bool). before || (clause && (b && s))) (sym (any_rest p xs i x lt at))
  where
    spread : (b c w r s : Bool) → ((b || (c && (w && s))) || (c && (r && s))) ≡ (b || (c && ((w || r) && s)))
    spread b c w r s = grind arith

pub in_order : (b o c t s : Bool) → (b || (o && (c && (t && s)))) ≡ (b || (c && ((o && t) && s)))
in_order b o c t s = grind arith

any_out : {A : Type 0} (p : A → Bool) (s : Bool) (xs : List A) → list_any (λ x. p x && s) xs ≡ (list_any p xs && s)
any_out p s [] = refl
any_out p s (x ∷ xs) = ap (λ (b : Bool). (p x && s) || b) (any_out p s xs) ∙ out (p x) (list_any p xs) s
  where
    out : (a r s : Bool) → ((a && s) || (r && s)) ≡ ((a || r) && s)
    out a r s = grind arith

module _ (facts : ℕ) (rows : List (List ℕ)) (set : ℕ → Bool) (effects : List Effect) (plain : list_all (λ e. length e.condition == 0) effects ≡ true) (free : has_no_pair facts set ≡ true) where
  empty : (e : Effect) → Among e effects → e.condition ≡ []
  empty e a = none e.condition (all_at (λ (f : Effect). length f.condition == 0) effects e plain a)
    where
      none : (c : List ℕ) → (length c == 0) ≡ true → c ≡ []
      none [] t = refl
      none (l ∷ ls) t = absurd (let n : suc (length ls) ≡ 0 = test_same (suc (length ls)) 0 t in omega arith)

  more : (e : Effect) → Among e effects → with_more rows set e.condition ≡ set
  more e a = (λ i. with_more rows set (empty e a i)) ∙ (λ i m. or-false (set m) i)

  given : (l : ℕ) → gives set effects l ≡ adds_plainly effects l
  given l = any_same (λ (e : Effect). (e.literal == l) && list_all set e.condition) (λ (e : Effect). e.literal == l) effects
      (λ e a. (λ i. (e.literal == l) && list_all set (empty e a i)) ∙ and_one (e.literal == l))

  may : (e : Effect) → Among e effects → (l : ℕ) → may_take facts (with_more rows set e.condition) effects l ≡ not (is_add l && adds_plainly effects l)
  may e a l =
      (λ i. may_take facts (more e a i) effects l)
      ∙ ap (λ (b : Bool). b && not (is_add l && gives set effects l)) free
      ∙ ap (λ (b : Bool). not (is_add l && b)) (given l)

  loses : (m : ℕ) → loses_by facts rows set effects effects m ≡ takes_plainly (adds_plainly effects) effects m
  loses m =
      any_same (λ (e : Effect). (e.literal == opposite m) && may_take facts (with_more rows set e.condition) effects m) (λ (e : Effect). (opposite e.literal == m) && not (is_add m && adds_plainly effects m)) effects
      (λ e a. λ i. opposite_test e.literal m i && may e a m i)

  abbrev left : ℕ → Bool
  left m = (set m || adds_plainly effects m) && not (takes_plainly (adds_plainly effects) effects m)

  sure : (m : ℕ) → is_sure facts rows set effects m ≡ left m
  sure m = λ i. (set m || given m i) && not (loses m i)

  pub breaks_the_same : (l m : ℕ) → breaks_plainly set effects l m ≡ list_any (breaks_with facts rows set effects l m) effects
  breaks_the_same l m =
      sym (any_out (λ (e : Effect). (opposite e.literal == l) && not (is_add l && adds_plainly effects l)) (not (left m)) effects)
      ∙ any_same (λ (e : Effect). ((opposite e.literal == l) && not (is_add l && adds_plainly effects l)) && not (left m)) (breaks_with facts rows set effects l m) effects
      (λ e a. nested (opposite e.literal == l) (not (is_add l && adds_plainly effects l)) (not (left m))
      ∙ (λ i. sym (opposite_test e.literal l) i && (sym (may e a l) i && not (sym (sure m) i)))
      ∙ (λ i. (e.literal == opposite l) && (may_take facts (with_more rows set e.condition) effects l && not (is_sure facts rows (sym (more e a) i) effects m))))
    where
      nested : (a b c : Bool) → ((a && b) && c) ≡ (a && (b && c))
      nested a b c = grind arith
