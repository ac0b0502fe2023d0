use Rattle.std.proofs.Common.{arith, ◌≡◌, ◌==◌, ℕ, suc, zero, ◌+◌, ◌*◌, ◌<◌, List, [], ◌∷◌, length, Bool, true, false, not, ◌&&◌, ◌||◌, refl, ap, sym, ◌∙◌, ◌⊎◌, inl, inr, subst, Some}
use Rattle.std.specs.Prelude.{slice_get}
use Rattle.std.specs.List.{list_any, list_all, AllByRecursion}
use Rattle.std.proofs.lemmas.Option.{slice_get_within, get_or_from_slice_get}
use Rattle.std.proofs.lemmas.List.Folds.{list_any_at}
use Rattle.std.proofs.Math.Bool.{or-false}
use Rattle.bit_sets.specs.Rows.{row_has}
use Rattle.gt_core.specs.Literal.{opposite}
use Rattle.gt_core.proofs.published.Basics.{or_split, or_left, or_right, and_split, and_both, not_true, apart, test_same, same_if, passing, all_at, all_from, each_at, Among}
use Rattle.gt_core.proofs.published.Literals.{opposite_twice}
use Rattle.implied_literals.specs.Breaks.{is_add}
use Rattle.implied_literals.specs.Rows.{row_at, IsPart}
use Rattle.implied_literals.specs.Tested.{with_more, has_no_pair}
use Rattle.two_invariants.specs.own.Groups.{group_with, may_take_by, may_lose, is_sure_by, GroupFits}
use Rattle.implied_literals.proofs.published.Steps.{opposite_below}
use Rattle.two_invariants.specs.own.Numbers.{finds}
use Rattle.two_invariants.specs.own.Index.{IsNumbered, IsGroupOf, gives_in, AreGivers, IsGiver, takes_in, AreTakers, IsFirm}
use Rattle.two_invariants.specs.declared.groups.Group.{Group}
use Rattle.two_invariants.specs.declared.givers.Givers.{Givers}
use Rattle.two_invariants.specs.declared.takers.Takers.{Takers}

-- What the index of groups of effects tells.

-- an element that passes a test, with its place
pub record Placed {A : Type 0} (p : A → Bool) (xs : List A) : Type 0 where
  pub number : ℕ
  pub one : A
  pub at : slice_get xs number ≡ Some one
  pub passes : p one ≡ true

pub placed : {A : Type 0} (p : A → Bool) (xs : List A) → list_any p xs ≡ true → Placed p xs
placed p [] e = cc
placed p (x ∷ xs) e =
    elim (or_split (p x) (list_any p xs) e) [
      | inl h ↦ record { number = 0; one = x; at = refl; passes = h }
      | inr h ↦ let r = placed p xs h in record { number = suc r.number; one = r.one; at = r.at; passes = r.passes }
    ]

pub from_place : {A : Type 0} (p : A → Bool) (xs : List A) (n : ℕ) (x : A) → slice_get xs n ≡ Some x → p x ≡ true → list_any p xs ≡ true
from_place p xs n x at e = list_any_at p xs n x (slice_get_within xs n x at) (ap p (get_or_from_slice_get xs n x x at) ∙ e)

pub among_place : {A : Type 0} (xs : List A) (n : ℕ) (x : A) → slice_get xs n ≡ Some x → Among x xs
among_place [] n x at = cc
among_place (y ∷ ys) zero x at = inl (cc)
among_place (y ∷ ys) (suc n) x at = inr (among_place ys n x at)

-- a literal of a known list is known
pub member_known : (set : ℕ → Bool) (ls : List ℕ) (k : ℕ) → list_all set ls ≡ true → list_any (λ l. l == k) ls ≡ true → set k ≡ true
member_known set ls k all some =
    let p = passing (λ l. l == k) ls some in
    subst (λ (l : ℕ). set l ≡ true) (test_same p.one k p.passes) (all_at set ls p.one all p.among)

-- what is known where less is known
pub all_more : (set more : ℕ → Bool) (ls : List ℕ) → IsPart set more → list_all set ls ≡ true → list_all more ls ≡ true
all_more set more ls part all = all_from more ls (λ l a. part l (all_at set ls l all a))

pub gives_more : (set more : ℕ → Bool) (groups : List Group) (m : ℕ) → IsPart set more → group_with groups m (list_all set) ≡ true → group_with groups m (list_all more) ≡ true
gives_more set more groups m part has =
    let r = placed (λ g. row_has g.literals m && list_all set g.condition.items) groups has in
    let h = and_split (row_has r.one.literals m) (list_all set r.one.condition.items) r.passes in
    from_place (λ g. row_has g.literals m && list_all more g.condition.items) groups r.number r.one r.at
    (and_both _ _ h.0 (all_more set more r.one.condition.items part h.1))

-- the index for a set serves where more is known
pub givers_more : (set more : ℕ → Bool) (groups : List Group) (upto : ℕ) (givers : Givers) → IsPart set more → AreGivers set groups upto givers → AreGivers more groups upto givers
givers_more set more groups upto givers part are = record {
  lists = are.lists;
  base = λ m b. gives_more set more groups m part (are.base m b);
  each = are.each;
}

-- each group whose condition is known was found
pub all_given : (set given : ℕ → Bool) (groups : List Group) (givers : Givers) → AreGivers set groups (length groups) givers → IsPart (row_has givers.base) given
    → ((m : ℕ) → given m ≡ true → group_with groups m (list_all set) ≡ true)
    → ((k n m : ℕ) (g : Group) → set k ≡ true → finds givers.by k n ≡ true → IsNumbered groups n g → gives_in set g m ≡ true → given m ≡ true)
    → (m : ℕ) → given m ≡ group_with groups m (list_all set)
all_given set given groups givers are more sound done m =
    same_if (given m) (group_with groups m (list_all set)) (sound m)
    (λ e. let r = placed (λ g. gives_in set g m) groups e in by r (are.each r.number r.one (slice_get_within groups r.number r.one r.at) r.at))
  where
    by : (r : Placed (λ g. gives_in set g m) groups) → IsGiver r.one r.number givers → given m ≡ true
    by r (inl part) = more m (part m (and_split _ _ r.passes).0)
    by r (inr found) = done found.0 r.number m r.one (member_known set r.one.condition.items found.0 (and_split _ _ r.passes).1 found.1.0) found.1.1 r.at r.passes

-- a set is part of it with more
pub more_of : (rows : List (List ℕ)) (set : ℕ → Bool) (ls : List ℕ) → IsPart set (with_more rows set ls)
more_of rows set ls m t = or_left (set m) _ t

-- where more is known there is a contradiction too
pub no_pair_less : (facts : ℕ) (set more : ℕ → Bool) → IsPart set more → has_no_pair facts set ≡ false → has_no_pair facts more ≡ false
no_pair_less zero set more part e = cc
no_pair_less (suc f) set more part e = by (set (2 * f) && set (2 * f + 1)) refl (no_pair_less f set more part)
  where
    and_none : (b : Bool) → (b && false) ≡ false
    and_none true = refl
    and_none false = refl

    by : (b : Bool) → (set (2 * f) && set (2 * f + 1)) ≡ b → (has_no_pair f set ≡ false → has_no_pair f more ≡ false) → has_no_pair (suc f) more ≡ false
    by true h less =
        let p = and_split _ _ h in
        let both = and_both (more (2 * f)) (more (2 * f + 1)) (part _ p.0) (part _ p.1) in
        ap (λ (x : Bool). not x && has_no_pair f more) both
    by false h less =
        let rest : has_no_pair f set ≡ false = ap (λ (x : Bool). not x && has_no_pair f set) (sym h) ∙ e in
        ap (λ (x : Bool). not (more (2 * f) && more (2 * f + 1)) && x) (less rest) ∙ and_none (not (more (2 * f) && more (2 * f + 1)))

-- what an add overrules where a set is known, it overrules where more is
pub overruled : (facts : ℕ) (rows : List (List ℕ)) (groups : List Group) (here : ℕ → Bool) (g : Group) (m : ℕ)
    → (is_add m && group_with groups m (list_all here)) ≡ true → takes_in facts rows groups here g m ≡ false
overruled facts rows groups here g m e =
    let p = and_split (is_add m) (group_with groups m (list_all here)) e in
    let there = with_more rows here g.condition.items in
    let both = and_both (is_add m) (group_with groups m (list_all there)) p.0 (gives_more here there groups m (more_of rows here g.condition.items) p.1) in
    off (row_has g.opposites m) (has_no_pair facts there) (is_add m && group_with groups m (list_all there)) both
  where
    off : (o f x : Bool) → x ≡ true → (o && (f && not x)) ≡ false
    off true true x h = ap not h
    off true false x h = refl
    off false f x h = refl

wider : (rows : List (List ℕ)) (set more : ℕ → Bool) (ls : List ℕ) → IsPart set more → IsPart (with_more rows set ls) (with_more rows more ls)
wider rows set more ls part m t = by (or_split (set m) _ t)
  where
    by : (set m ≡ true) ⊎ (list_any (λ l. row_has (row_at rows l) m) ls ≡ true) → with_more rows more ls m ≡ true
    by (inl h) = or_left (more m) _ (part m h)
    by (inr h) = or_right (more m) _ h

pub takers_more : (facts : ℕ) (rows : List (List ℕ)) (set more : ℕ → Bool) (groups : List Group) (upto : ℕ) (takers : Takers) → IsPart set more
    → AreTakers facts rows set groups upto takers → AreTakers facts rows more groups upto takers
takers_more facts rows set more groups upto takers part are = record {
  lists = are.lists;
  plain = are.plain;
  each = λ n g lt at m o. by g m n (are.each n g lt at m o);
}
  where
    by : (g : Group) (m n : ℕ)
        → (row_has takers.plain m ≡ true) ⊎ ((has_no_pair facts (with_more rows set g.condition.items) ≡ false) ⊎ (finds takers.by m n ≡ true))
        → (row_has takers.plain m ≡ true) ⊎ ((has_no_pair facts (with_more rows more g.condition.items) ≡ false) ⊎ (finds takers.by m n ≡ true))
    by g m n (inl h) = inl h
    by g m n (inr (inl dead)) =
        inr (inl (no_pair_less facts (with_more rows set g.condition.items) (with_more rows more g.condition.items) (wider rows set more g.condition.items part) dead))
    by g m n (inr (inr found)) = inr (inr found)

-- what a group makes true is of so many facts
pub given_within : (n m : ℕ) (groups : List Group) (test : List ℕ → Bool) → AllByRecursion (GroupFits (2 * n)) groups → group_with groups m test ≡ true → m < 2 * n
given_within n m groups test fits has =
    let r = placed (λ (g : Group). row_has g.literals m && test g.condition.items) groups has in
    let g_fits = each_at (GroupFits (2 * n)) groups r.one fits (among_place groups r.number r.one r.at) in
    let lit = (and_split (row_has r.one.literals m) (test r.one.condition.items) r.passes).0 in
    let other = g_fits.within (opposite m) (g_fits.turned (opposite m) ∙ ap (row_has r.one.literals) (opposite_twice m) ∙ lit) in
    subst (λ (k : ℕ). k < 2 * n) (opposite_twice m) (opposite_below (opposite m) n other)

-- what literals tell once more is nothing new
pub told_twice : (rows : List (List ℕ)) (set : ℕ → Bool) (ls : List ℕ) (m : ℕ) → with_more rows (with_more rows set ls) ls m ≡ with_more rows set ls m
told_twice rows set ls m = twice (set m) (list_any (λ l. row_has (row_at rows l) m) ls)
  where
    twice : (a b : Bool) → ((a || b) || b) ≡ (a || b)
    twice true b = refl
    twice false true = refl
    twice false false = refl

-- what the three looks leave is what no effect may take
module _ (facts size : ℕ) (rows : List (List ℕ)) (groups : List Group) (here : ℕ → Bool) (takers : Takers) (fits : AllByRecursion (GroupFits size) groups)
    (are : AreTakers facts rows here groups (length groups) takers) (free : has_no_pair facts here ≡ true)
    (own : Group) (own_fits : GroupFits size own) (of : IsGroupOf groups own) (at_home : (k : ℕ) → with_more rows here own.condition.items k ≡ here k)
    (given s0 s1 s2 s3 : ℕ → Bool) (gives : (k : ℕ) → given k ≡ group_with groups k (list_all here))
    (one : (k : ℕ) → s1 k ≡ (s0 k && not (row_has takers.plain k && not (is_add k && given k))))
    (two : (k : ℕ) → s2 k ≡ (s1 k && not (row_has own.opposites k && not (is_add k && given k))))
    (less : IsPart s3 s2)
    (lost : (k : ℕ) → s2 k ≡ true → s3 k ≡ false → may_lose facts rows (group_with groups) here k ≡ true)
    (done : (k n : ℕ) (g : Group) → s3 k ≡ true → finds takers.by k n ≡ true → IsNumbered groups n g → takes_in facts rows groups here g k ≡ false)
    (m : ℕ) where
  free_there : (c : List ℕ) → with_more rows here c ≡ here → may_take_by facts (group_with groups) (with_more rows here c) m ≡ not (is_add m && given m)
  free_there c same =
      (λ i. has_no_pair facts (same i) && not (is_add m && group_with groups m (list_all (same i))))
      ∙ ap (λ (b : Bool). b && not (is_add m && group_with groups m (list_all here))) free
      ∙ ap (λ (b : Bool). not (is_add m && b)) (sym (gives m))

  -- by an effect without condition
  plain_lost : row_has takers.plain m ≡ true → not (is_add m && given m) ≡ true → may_lose facts rows (group_with groups) here m ≡ true
  plain_lost p t =
      let r = placed (λ (g : Group). row_has g.literals (opposite m) && (length g.condition.items == 0)) groups (are.plain m p) in
      let h = and_split _ _ r.passes in
      from_place (λ (g : Group). row_has g.literals (opposite m) && may_take_by facts (group_with groups) (with_more rows here g.condition.items) m) groups r.number r.one r.at
      (and_both _ _ h.0 (free_there r.one.condition.items (empty r.one.condition.items h.1) ∙ t))
    where
      empty : (c : List ℕ) → (length c == 0) ≡ true → with_more rows here c ≡ here
      empty [] e = λ i k. or-false (here k) i
      empty (l ∷ ls) e = absurd (let n : suc (length ls) ≡ 0 = test_same (suc (length ls)) 0 e in omega arith)

  -- by an effect of the group
  own_lost : row_has own.opposites m ≡ true → not (is_add m && given m) ≡ true → may_lose facts rows (group_with groups) here m ≡ true
  own_lost o t =
      of (opposite m) (λ c. may_take_by facts (group_with groups) (with_more rows here c) m)
      (and_both _ _ (sym (own_fits.turned m) ∙ o) (free_there own.condition.items (λ i k. at_home k i) ∙ t))

  added : (p x : Bool) → p ≡ true → not (p && not x) ≡ true → x ≡ true
  added true true e h = refl
  added true false e h = cc
  added false x e h = cc

  stays : (s x y : Bool) → s ≡ true → (x ≡ true → y ≡ true → ⊥) → (s && not (x && y)) ≡ true
  stays true true true e h = absurd (h refl refl)
  stays true true false e h = refl
  stays true false y e h = refl
  stays false x y e h = cc

  pub left_is : s3 m ≡ (s0 m && not (may_lose facts rows (group_with groups) here m))
  left_is = same_if (s3 m) (s0 m && not (may_lose facts rows (group_with groups) here m)) forth back
    where
      kept_one : s3 m ≡ true → (s0 m && not (row_has takers.plain m && not (is_add m && given m))) ≡ true
      kept_one t = sym (one m) ∙ (and_split _ _ (sym (two m) ∙ less m t)).0

      not_lost : s3 m ≡ true → may_lose facts rows (group_with groups) here m ≡ true → ⊥
      not_lost t lose =
          let r = placed (λ (g : Group). row_has g.literals (opposite m) && may_take_by facts (group_with groups) (with_more rows here g.condition.items) m) groups lose in
          let h = and_split (row_has r.one.literals (opposite m)) _ r.passes in
          let g_fits = each_at (GroupFits size) groups r.one fits (among_place groups r.number r.one r.at) in
          let o = g_fits.turned m ∙ h.0 in
          let takes = and_both (row_has r.one.opposites m) _ o h.1 in
          by r h.1 takes (are.each r.number r.one (slice_get_within groups r.number r.one r.at) r.at m o)
        where
          by : (r : Placed (λ (g : Group). row_has g.literals (opposite m) && may_take_by facts (group_with groups) (with_more rows here g.condition.items) m) groups)
              → may_take_by facts (group_with groups) (with_more rows here r.one.condition.items) m ≡ true → takes_in facts rows groups here r.one m ≡ true
              → (row_has takers.plain m ≡ true) ⊎ ((has_no_pair facts (with_more rows here r.one.condition.items) ≡ false) ⊎ (finds takers.by m r.number ≡ true)) → ⊥
          by r may takes (inl p) = apart _ takes (overruled facts rows groups here r.one m (ap (λ (b : Bool). is_add m && b) (sym (gives m)) ∙ added (row_has takers.plain m) (is_add m && given m) p (and_split _ _ (kept_one t)).1))
          by r may takes (inr (inl dead)) = apart _ (and_split _ _ may).0 dead
          by r may takes (inr (inr found)) = apart _ takes (done m r.number r.one t found r.at)

      not_off : (b : Bool) → (b ≡ false → ⊥) → b ≡ true
      not_off true h = refl
      not_off false h = absurd (h refl)

      forth : s3 m ≡ true → (s0 m && not (may_lose facts rows (group_with groups) here m)) ≡ true
      forth t = and_both _ _ (and_split _ _ (kept_one t)).0 (ap not (not_true _ (not_lost t)))

      back : (s0 m && not (may_lose facts rows (group_with groups) here m)) ≡ true → s3 m ≡ true
      back t =
          let h = and_split (s0 m) _ t in
          let lose : may_lose facts rows (group_with groups) here m ≡ true → ⊥ = λ l. apart _ h.1 (ap not l) in
          let first = one m ∙ stays (s0 m) (row_has takers.plain m) (not (is_add m && given m)) h.0 (λ p q. lose (plain_lost p q)) in
          let second = two m ∙ stays (s1 m) (row_has own.opposites m) (not (is_add m && given m)) first (λ p q. lose (own_lost p q)) in
          not_off (s3 m) (λ f. lose (lost m second f))

-- what is known and taken by no group is sure
module _ (facts size : ℕ) (rows : List (List ℕ)) (groups : List Group) (here : ℕ → Bool) (takers : Takers) (fits : AllByRecursion (GroupFits size) groups) (are : AreTakers facts rows here groups (length groups) takers) where
  never_lost : (m : ℕ) → row_has takers.plain m ≡ false → row_has takers.by.literals m ≡ false → may_lose facts rows (group_with groups) here m ≡ true → ⊥
  never_lost m p n lose =
      let r = placed (λ (g : Group). row_has g.literals (opposite m) && may_take_by facts (group_with groups) (with_more rows here g.condition.items) m) groups lose in
      let h = and_split (row_has r.one.literals (opposite m)) _ r.passes in
      let g_fits = each_at (GroupFits size) groups r.one fits (among_place groups r.number r.one r.at) in
      by r.one r.number h.1 (are.each r.number r.one (slice_get_within groups r.number r.one r.at) r.at m (g_fits.turned m ∙ h.0))
    where
      by : (g : Group) (k : ℕ) → may_take_by facts (group_with groups) (with_more rows here g.condition.items) m ≡ true
          → (row_has takers.plain m ≡ true) ⊎ ((has_no_pair facts (with_more rows here g.condition.items) ≡ false) ⊎ (finds takers.by m k ≡ true)) → ⊥
      by g k may (inl t) = apart (row_has takers.plain m) t p
      by g k may (inr (inl dead)) = apart _ (and_split _ _ may).0 dead
      by g k may (inr (inr found)) = apart (row_has takers.by.literals m) (and_split _ _ found).0 n

  pub firm_sure : (m : ℕ) → IsFirm takers here m → is_sure_by facts rows (group_with groups) here m ≡ true
  firm_sure m firm = and_both _ _ (or_left (here m) _ firm.0) (ap not (not_true _ (never_lost m firm.1 firm.2)))

-- what is sure is not broken, and what is there already is not added
pub kept_sure : (old clause lits may sure : Bool) → (old ≡ false → lits ≡ true → clause ≡ true → sure ≡ true) → old ≡ (old || (clause && (lits && (may && not sure))))
kept_sure true clause lits may sure h = refl
kept_sure false false lits may sure h = refl
kept_sure false true false may sure h = refl
kept_sure false true true false sure h = refl
kept_sure false true true true sure h = ap not (sym (h refl refl refl))
