use Rattle.std.proofs.Common.{arith, ◌≡◌, ◌==◌, ℕ, zero, suc, ◌+◌, ◌*◌, ◌/◌, ◌%◌, ◌<◌, List, [], ◌∷◌, ◌++◌, Bool, true, false, not, ◌&&◌, ◌||◌, refl, ap, sym, ◌∙◌, ◌⊎◌, inl, inr, subst}
use Rattle.std.specs.List.{list_any, list_all, AllByRecursion}
use Rattle.std.proofs.lemmas.Bool.Decides.{nat_tests}
use Rattle.bit_sets.specs.Rows.{row_has, IsPairTest}
use Rattle.gt_core.specs.Literal.{opposite}
use Rattle.gt_core.specs.Task.{Effect, Action}
use Rattle.gt_core.proofs.published.Basics.{Among, passing, any_at, all_from, all_at, or_split, or_left, or_right, and_split, and_both, not_true, not_false, not_split, same_test, test_same, apart, each_at, each_from}
use Rattle.gt_core.proofs.published.Literals.{add_opposite, delete_opposite}
use Rattle.implied_literals.specs.Known.{IsFull, IsKnown, AllKnown, IsConsistent}
use Rattle.implied_literals.specs.Breaks.{is_add, Takes, Loses, Gives, Sure, BreaksBy, Breaks}
use Rattle.implied_literals.specs.Rows.{row_at, HasNoPair}
use Rattle.implied_literals.specs.Tested.{AreKnown, AsksAmong, IsSetOf, with_more, has_no_pair, gives, may_take, loses_by, is_sure, breaks_with, breaks_by}
use Rattle.implied_literals.specs.declared.known.Known.{Known}
use Rattle.implied_literals.proofs.published.Lists.{any_map, any_map_in, any_here, all_map, all_joined, any_test, test_any}
use Rattle.implied_literals.proofs.published.Closing.{closure_within}
use Rattle.std.proofs.lemmas.List.Folds.{list_any-append}

-- The tests on rows are what the definitions say, where nothing contradictory is known.

-- ---- more literals, one after the other

more_twice : (rows : List (List ℕ)) (set : ℕ → Bool) (ls ms : List ℕ) → with_more rows (with_more rows set ls) ms ≡ with_more rows set (ls ++ ms)
more_twice rows set ls ms = λ i m. at m i
  where
    nested : (a b c : Bool) → ((a || b) || c) ≡ (a || (b || c))
    nested true b c = refl
    nested false b c = refl

    at : (m : ℕ) → with_more rows (with_more rows set ls) ms m ≡ with_more rows set (ls ++ ms) m
    at m = nested (set m) (list_any (λ l. row_has (row_at rows l) m) ls) (list_any (λ l. row_has (row_at rows l) m) ms)
        ∙ ap (λ (b : Bool). set m || b) (sym (list_any-append (λ l. row_has (row_at rows l) m) ls ms))

-- ---- no pair

pub no_pair_from : (facts : ℕ) (set : ℕ → Bool) → HasNoPair set → has_no_pair facts set ≡ true
no_pair_from zero set h = refl
no_pair_from (suc f) set h = and_both _ _ (not_false _ (not_true _ (λ t. let p = and_split _ _ t in h f p.0 p.1))) (no_pair_from f set h)

no_pair_at : (facts : ℕ) (set : ℕ → Bool) (f : ℕ) → has_no_pair facts set ≡ true → f < facts → set (2 * f) ≡ true → set (2 * f + 1) ≡ true → ⊥
no_pair_at zero set f h l a b = omega arith
no_pair_at (suc g) set f h l a b = by (same_or_not f g) (no_pair_at g set f (and_split _ _ h).1)
  where
    same_or_not : (a b : ℕ) → (a ≡ b) ⊎ (a ≡ b → ⊥)
    same_or_not a b = grind arith

    by : (f ≡ g) ⊎ (f ≡ g → ⊥) → (f < g → set (2 * f) ≡ true → set (2 * f + 1) ≡ true → ⊥) → ⊥
    by (inl e) ih = apart (set (2 * g) && set (2 * g + 1))
        (and_both _ _ (subst (λ (k : ℕ). set (2 * k) ≡ true) e a) (subst (λ (k : ℕ). set (2 * k + 1) ≡ true) e b))
        (not_split _ (and_split _ _ h).0)
    by (inr d) ih = ih (omega arith) a b

pub no_pair_to : (facts : ℕ) (set : ℕ → Bool) → IsSetOf (2 * facts) set → has_no_pair facts set ≡ true → HasNoPair set
no_pair_to facts set within h f a b = no_pair_at facts set f h (let l = within (2 * f) a in omega arith) a b

-- the test of a row
pub pair_test_is : (facts : ℕ) (set : ℕ → Bool) (b : Bool) → IsSetOf (2 * facts) set → IsPairTest set b → not b ≡ has_no_pair facts set
pair_test_is facts set true within p = sym (not_true _ (λ h. no_pair_to facts set within h p.0 p.1 p.2))
pair_test_is facts set false within p = sym (no_pair_from facts set p)

-- a literal and its opposite are such a pair
pair_of : (set : ℕ → Bool) (l : ℕ) → HasNoPair set → set l ≡ true → set (opposite l) ≡ true → ⊥
pair_of set l free a b = by (l % 2 == 0) refl
  where
    by : (e : Bool) → (l % 2 == 0) ≡ e → ⊥
    by true e =
        let is : l ≡ 2 * (l / 2) = let m : l % 2 ≡ 0 = grind (arith, nat_tests) in omega arith in
        free (l / 2) (subst (λ (k : ℕ). set k ≡ true) is a) (subst (λ (k : ℕ). set k ≡ true) (add_opposite l (l / 2) is) b)
    by false e =
        let is : l ≡ 2 * (l / 2) + 1 = let m : l % 2 ≡ 1 = grind (arith, nat_tests) in omega arith in
        free (l / 2) (subst (λ (k : ℕ). set k ≡ true) (delete_opposite l (l / 2) is) b) (subst (λ (k : ℕ). set k ≡ true) is a)

-- ---- what is known

abbrev told : Known → ℕ → ℕ → Bool
told known l = row_has (row_at known.rows.items l)

abbrev known_set : Known → List ℕ → ℕ → Bool
known_set known base = with_more known.rows.items (row_has known.none) base

module _ (V : ℕ → ℕ → Bool) (facts : ℕ) (known : Known) (bound : (l m : ℕ) → V l m ≡ true → (l < 2 * facts) × (m < 2 * facts)) (asked : ℕ → Bool) (are : AreKnown V (2 * facts) asked known) where
  pub none_within : IsSetOf (2 * facts) (row_has known.none)
  none_within = closure_within V (2 * facts) (λ l m v. (bound l m v).1) (λ l. V l l) (row_has known.none) are.none (λ m v. (bound m m v).0)

  pub row_within : (k : ℕ) → asked k ≡ true → IsSetOf (2 * facts) (told known k)
  row_within k ask = closure_within V (2 * facts) (λ l m v. (bound l m v).1) (λ m. k == m) (told known k) (are.each k ask)
      (λ m e. subst (λ (n : ℕ). n < 2 * facts) (test_same k m e) (are.inside k ask))

  -- an element of a set of known literals
  known_by : (base : List ℕ) → AllByRecursion (λ l. asked l ≡ true) base → (m : ℕ) (P : Type 0) → known_set known base m ≡ true → (row_has known.none m ≡ true → P) → ((l : ℕ) → Among l base → asked l ≡ true → told known l m ≡ true → P) → P
  known_by base fit m P t one two = by (or_split (row_has known.none m) _ t)
    where
      by : (row_has known.none m ≡ true) ⊎ (list_any (λ l. told known l m) base ≡ true) → P
      by (inl h) = one h
      by (inr h) = let p = passing (λ l. told known l m) base h in two p.one p.among (each_at (λ l. asked l ≡ true) base p.one fit p.among) p.passes

  from_one : (base : List ℕ) (l m : ℕ) → Among l base → told known l m ≡ true → known_set known base m ≡ true
  from_one base l m i t = or_right (row_has known.none m) _ (any_at (λ k. told known k m) base l i t)

  pub known_within : (base : List ℕ) → AllByRecursion (λ l. asked l ≡ true) base → IsSetOf (2 * facts) (known_set known base)
  known_within base fit m t = known_by base fit m (m < 2 * facts) t (none_within m) (λ l i lt. row_within l lt m)

  known_full : (base : List ℕ) → AllByRecursion (λ l. asked l ≡ true) base → HasNoPair (known_set known base) → IsFull V base (known_set known base)
  known_full base fit free = record {
    given = each_from _ base (λ l i. from_one base l l i ((are.each l (each_at (λ k. asked k ≡ true) base l fit i)).given l (same_test l l refl)));
    single = λ l v. or_left _ _ (are.none.given l v);
    chain = λ x y t v. known_by base fit x (known_set known base y ≡ true) t
        (λ h. or_left _ _ (are.none.chained (λ f a b. free f (or_left _ _ a) (or_left _ _ b)) x y h v))
        (λ l i lt h. from_one base l y i ((are.each l lt).chained (λ f a b. free f (from_one base l (2 * f) i a) (from_one base l (2 * f + 1) i b)) x y h v));
  }

  pub known_sound : (base : List ℕ) → AllByRecursion (λ l. asked l ≡ true) base → (m : ℕ) → known_set known base m ≡ true → IsKnown V base m
  known_sound base fit m t set full = known_by base fit m (set m ≡ true) t (low m)
      (λ l i lt h. (are.each l lt).sound set full.chain (λ k e. subst (λ (n : ℕ). set n ≡ true) (test_same l k e) (each_at (λ n. set n ≡ true) base l full.given i)) m h)
    where
      low : (m : ℕ) → row_has known.none m ≡ true → set m ≡ true
      low m h = are.none.sound set full.chain full.single m h

  -- what is known is told, where no contradiction is
  pub known_told : (base : List ℕ) → AllByRecursion (λ l. asked l ≡ true) base → HasNoPair (known_set known base) → (m : ℕ) → IsKnown V base m → known_set known base m ≡ true
  known_told base fit free m k = k (known_set known base) (known_full base fit free)

  pub consistent_from : (base : List ℕ) → AllByRecursion (λ l. asked l ≡ true) base → HasNoPair (known_set known base) → IsConsistent V base
  consistent_from base fit free l a b = pair_of (known_set known base) l free (known_told base fit free l a) (known_told base fit free (opposite l) b)

  pub consistent_to : (base : List ℕ) → AllByRecursion (λ l. asked l ≡ true) base → IsConsistent V base → HasNoPair (known_set known base)
  consistent_to base fit c f a b = c (2 * f) (known_sound base fit (2 * f) a)
      (subst (IsKnown V base) (sym (add_opposite (2 * f) f refl)) (known_sound base fit (2 * f + 1) b))

  all_told : (base lits : List ℕ) → AllByRecursion (λ l. asked l ≡ true) base → HasNoPair (known_set known base) → AllKnown V base lits → list_all (known_set known base) lits ≡ true
  all_told base lits fit free all = all_from _ lits (λ l i. known_told base fit free l (each_at (IsKnown V base) lits l all i))

  all_sound : (base lits : List ℕ) → AllByRecursion (λ l. asked l ≡ true) base → list_all (known_set known base) lits ≡ true → AllKnown V base lits
  all_sound base lits fit t = each_from _ lits (λ l i. known_sound base fit l (all_at _ lits l t i))

  -- ---- an action

  module _ (x : Action) (fits : AsksAmong asked x) where
    abbrev MayTake : List ℕ → ℕ → Type 0
    MayTake base l = IsConsistent V base × (is_add l ≡ true → AllByRecursion (λ f. f.literal ≡ l → AllKnown V base f.condition → ⊥) x.effects)

    may_to : (base : List ℕ) (l : ℕ) → AllByRecursion (λ k. asked k ≡ true) base → may_take facts (known_set known base) x.effects l ≡ true → MayTake base l
    may_to base l fit t =
        let p = and_split _ _ t in
        let free = no_pair_to facts (known_set known base) (known_within base fit) p.0 in (
          consistent_from base fit free,
          λ add. each_from _ x.effects (λ f i is k.
              apart (is_add l && gives (known_set known base) x.effects l)
              (and_both _ _ add (any_at (λ e. (e.literal == l) && list_all (known_set known base) e.condition) x.effects f i (and_both _ _ (same_test _ _ is) (all_told base f.condition fit free k))))
              (not_split _ p.1)),
        )

    may_from : (base : List ℕ) (l : ℕ) → AllByRecursion (λ k. asked k ≡ true) base → MayTake base l → may_take facts (known_set known base) x.effects l ≡ true
    may_from base l fit m =
        and_both _ _ (no_pair_from facts (known_set known base) (consistent_to base fit m.0))
        (not_false _ (not_true _ (λ h.
        let p = and_split _ _ h in
        let q = passing (λ e. (e.literal == l) && list_all (known_set known base) e.condition) x.effects p.1 in
        let r = and_split (q.one.literal == l) _ q.passes in
        each_at (λ f. f.literal ≡ l → AllKnown V base f.condition → ⊥) x.effects q.one (m.1 p.0) q.among (test_same _ _ r.0) (all_sound base q.one.condition fit r.1))))

    condition_fits : (e : Effect) → Among e x.effects → AllByRecursion (λ k. asked k ≡ true) e.condition
    condition_fits e i = each_at (λ f. AllByRecursion (λ l. asked l ≡ true) f.condition) x.effects e fits.conditions i

    takes_to : (more : List ℕ) (e : Effect) (l : ℕ) → AllByRecursion (λ k. asked k ≡ true) more → Among e x.effects
        → ((e.literal == opposite l) && may_take facts (known_set known (x.precondition ++ (more ++ e.condition))) x.effects l) ≡ true → Takes V x more e l
    takes_to more e l fit i t =
        let p = and_split _ _ t in
        let m = may_to (x.precondition ++ (more ++ e.condition)) l (all_joined _ _ _ fits.precondition (all_joined _ more _ fit (condition_fits e i))) p.1 in
        record { against = test_same _ _ p.0; consistent = m.0; stands = m.1 }

    takes_from : (more : List ℕ) (e : Effect) (l : ℕ) → AllByRecursion (λ k. asked k ≡ true) more → Among e x.effects
        → Takes V x more e l → ((e.literal == opposite l) && may_take facts (known_set known (x.precondition ++ (more ++ e.condition))) x.effects l) ≡ true
    takes_from more e l fit i t =
        and_both _ _ (same_test _ _ t.against)
        (may_from (x.precondition ++ (more ++ e.condition)) l (all_joined _ _ _ fits.precondition (all_joined _ more _ fit (condition_fits e i))) (t.consistent, t.stands))

    -- the sets of the code
    here_is : (more c : List ℕ) → with_more known.rows.items (known_set known (x.precondition ++ more)) c ≡ known_set known (x.precondition ++ (more ++ c))
    here_is more c =
        ap (λ (s : ℕ → Bool). with_more known.rows.items s c) (sym (more_twice known.rows.items (row_has known.none) x.precondition more))
        ∙ more_twice known.rows.items (known_set known x.precondition) more c
        ∙ more_twice known.rows.items (row_has known.none) x.precondition (more ++ c)

    loses_to : (more : List ℕ) (l : ℕ) → AllByRecursion (λ k. asked k ≡ true) more → loses_by facts known.rows.items (known_set known (x.precondition ++ more)) x.effects x.effects l ≡ true → Loses V x more l
    loses_to more l fit = test_any (λ e. Takes V x more e l) _ x.effects (λ e i t. takes_to more e l fit i
        (subst (λ (s : ℕ → Bool). ((e.literal == opposite l) && may_take facts s x.effects l) ≡ true) (here_is more e.condition) t))

    loses_from : (more : List ℕ) (l : ℕ) → AllByRecursion (λ k. asked k ≡ true) more → Loses V x more l → loses_by facts known.rows.items (known_set known (x.precondition ++ more)) x.effects x.effects l ≡ true
    loses_from more l fit = any_test (λ e. Takes V x more e l) _ x.effects (λ e i t.
        subst (λ (s : ℕ → Bool). ((e.literal == opposite l) && may_take facts s x.effects l) ≡ true) (sym (here_is more e.condition)) (takes_from more e l fit i t))

    sure_to : (more : List ℕ) (m : ℕ) → AllByRecursion (λ k. asked k ≡ true) more → is_sure facts known.rows.items (known_set known (x.precondition ++ more)) x.effects m ≡ true → Sure V x more m
    sure_to more m fit t = record {
      stays = λ loses. apart _ (loses_from more m fit loses) (not_split _ (and_split _ _ t).1);
      holds = by (or_split _ _ (and_split _ _ t).0);
    }
      where
        by : (known_set known (x.precondition ++ more) m ≡ true) ⊎ (gives (known_set known (x.precondition ++ more)) x.effects m ≡ true) → IsKnown V (x.precondition ++ more) m ⊎ Gives V x more m
        by (inl h) = inl (known_sound (x.precondition ++ more) (all_joined _ _ _ fits.precondition fit) m h)
        by (inr h) = inr (test_any _ _ x.effects (λ e i g. let p = and_split _ _ g in (test_same _ _ p.0, all_sound (x.precondition ++ more) e.condition (all_joined _ _ _ fits.precondition fit) p.1)) h)

    sure_from : (more : List ℕ) (m : ℕ) → AllByRecursion (λ k. asked k ≡ true) more → IsConsistent V (x.precondition ++ more) → Sure V x more m → is_sure facts known.rows.items (known_set known (x.precondition ++ more)) x.effects m ≡ true
    sure_from more m fit c sure =
        and_both _ _ (by sure.holds) (not_false _ (not_true _ (λ h. sure.stays (loses_to more m fit h))))
      where
        by : IsKnown V (x.precondition ++ more) m ⊎ Gives V x more m → (known_set known (x.precondition ++ more) m || gives (known_set known (x.precondition ++ more)) x.effects m) ≡ true
        by (inl k) = or_left _ _ (known_told (x.precondition ++ more) (all_joined _ _ _ fits.precondition fit) (consistent_to _ (all_joined _ _ _ fits.precondition fit) c) m k)
        by (inr g) = or_right _ _ (any_test _ _ x.effects (λ e i h. and_both _ _ (same_test _ _ h.0)
            (all_told (x.precondition ++ more) e.condition (all_joined _ _ _ fits.precondition fit) (consistent_to _ (all_joined _ _ _ fits.precondition fit) c) h.1)) g)

    -- ---- what it breaks

    one_is : (c : List ℕ) → with_more known.rows.items (known_set known x.precondition) c ≡ known_set known (x.precondition ++ c)
    one_is c = more_twice known.rows.items (row_has known.none) x.precondition c

    pub breaks_to : (l m : ℕ) → breaks_by facts known x l m ≡ true → BreaksBy V x l m
    breaks_to l m = test_any _ (breaks_with facts known.rows.items (known_set known x.precondition) x.effects l m) x.effects (λ e i t. at e i
        (subst (λ (s : ℕ → Bool). ((e.literal == opposite l) && (may_take facts s x.effects l && not (is_sure facts known.rows.items s x.effects m))) ≡ true) (one_is e.condition) t))
      where
        at : (e : Effect) → Among e x.effects → ((e.literal == opposite l) && (may_take facts (known_set known (x.precondition ++ e.condition)) x.effects l && not (is_sure facts known.rows.items (known_set known (x.precondition ++ e.condition)) x.effects m))) ≡ true → Takes V x [] e l × (Sure V x e.condition m → ⊥)
        at e i t =
            let p = and_split (e.literal == opposite l) _ t in
            let q = and_split _ _ p.1 in
            let takes = takes_to [] e l tt i (and_both _ _ p.0 q.0) in
            (takes, λ sure. apart _ (sure_from e.condition m (condition_fits e i) takes.consistent sure) (not_split _ q.1))

    pub breaks_from : (l m : ℕ) → BreaksBy V x l m → breaks_by facts known x l m ≡ true
    breaks_from l m = any_test _ (breaks_with facts known.rows.items (known_set known x.precondition) x.effects l m) x.effects (λ e i b.
        subst (λ (s : ℕ → Bool). ((e.literal == opposite l) && (may_take facts s x.effects l && not (is_sure facts known.rows.items s x.effects m))) ≡ true) (sym (one_is e.condition)) (at e i b))
      where
        at : (e : Effect) → Among e x.effects → Takes V x [] e l × (Sure V x e.condition m → ⊥) → ((e.literal == opposite l) && (may_take facts (known_set known (x.precondition ++ e.condition)) x.effects l && not (is_sure facts known.rows.items (known_set known (x.precondition ++ e.condition)) x.effects m))) ≡ true
        at e i b =
            let p = and_split _ _ (takes_from [] e l tt i b.0) in
            and_both (e.literal == opposite l) _ p.0 (and_both _ _ p.1 (not_false _ (not_true _ (λ h. b.1 (sure_to e.condition m (condition_fits e i) h)))))

-- ---- the clause of one literal is broken as that of the literal with itself

known_less : (V : ℕ → ℕ → Bool) (base more : List ℕ) → AllKnown V base more → (m : ℕ) → IsKnown V more m → IsKnown V base m
known_less V base more all m k set full = k set (record { given = all_map _ _ (λ l h. h set full) more all; single = full.single; chain = full.chain })

part_known : (V : ℕ → ℕ → Bool) (ls ms : List ℕ) → AllKnown V (ls ++ ms) ms
part_known V ls ms = each_from _ ms (λ l i set full. each_at (λ k. set k ≡ true) (ls ++ ms) l full.given (right ls ms l i))
  where
    right : (ls ms : List ℕ) (l : ℕ) → Among l ms → Among l (ls ++ ms)
    right [] ms l i = i
    right (k ∷ ls) ms l i = inr (right ls ms l i)

twice_known : (V : ℕ → ℕ → Bool) (pre c : List ℕ) → AllKnown V (pre ++ c) (pre ++ (c ++ c))
twice_known V pre c = all_joined _ pre (c ++ c) (front pre c) (all_joined _ c c (part_known V pre c) (part_known V pre c))
  where
    left : (ls ms : List ℕ) (l : ℕ) → Among l ls → Among l (ls ++ ms)
    left [] ms l i = absurd i
    left (k ∷ ls) ms l (inl e) = inl e
    left (k ∷ ls) ms l (inr i) = inr (left ls ms l i)

    front : (pre c : List ℕ) → AllKnown V (pre ++ c) pre
    front pre c = each_from _ pre (λ l i set full. each_at (λ k. set k ≡ true) (pre ++ c) l full.given (left pre c l i))

takes_again : (V : ℕ → ℕ → Bool) (x : Action) (e : Effect) (l : ℕ) → Takes V x [] e l → Takes V x e.condition e l
takes_again V x e l t = record {
  against = t.against;
  consistent = λ m a b. t.consistent m (less m a) (less (opposite m) b);
  stands = λ add. all_map _ _ (λ f no is k. no is (all_map _ _ less f.condition k)) x.effects (t.stands add);
}
  where
    less : (m : ℕ) → IsKnown V (x.precondition ++ (e.condition ++ e.condition)) m → IsKnown V (x.precondition ++ e.condition) m
    less = known_less V (x.precondition ++ e.condition) (x.precondition ++ (e.condition ++ e.condition)) (twice_known V x.precondition e.condition)

loses_breaks : (V : ℕ → ℕ → Bool) (x : Action) (l : ℕ) → Loses V x [] l → BreaksBy V x l l
loses_breaks V x l = any_map_in _ _ x.effects (λ e i t. (t, λ sure. sure.stays (any_here (λ f. Takes V x e.condition f l) x.effects e i (takes_again V x e l t))))

pub either_breaks : (V : ℕ → ℕ → Bool) (x : Action) (l m : ℕ) → Breaks V x l m → BreaksBy V x l m ⊎ BreaksBy V x m l
either_breaks V x l m (inl p) = inl (subst (BreaksBy V x l) p.0 (loses_breaks V x l p.1))
either_breaks V x l m (inr p) = p.1

pub breaks_either : (V : ℕ → ℕ → Bool) (x : Action) (l m : ℕ) → BreaksBy V x l m ⊎ BreaksBy V x m l → Breaks V x l m
breaks_either V x l m b = by (same_or_not l m) b
  where
    same_or_not : (a b : ℕ) → (a ≡ b) ⊎ (a ≡ b → ⊥)
    same_or_not a b = grind arith

    lost : (l m : ℕ) → BreaksBy V x l m → Loses V x [] l
    lost l m = any_map _ _ (λ e h. h.0) x.effects

    by : (l ≡ m) ⊎ (l ≡ m → ⊥) → BreaksBy V x l m ⊎ BreaksBy V x m l → Breaks V x l m
    by (inl e) (inl h) = inl (e, lost l m h)
    by (inl e) (inr h) = inl (e, subst (Loses V x []) (sym e) (lost m l h))
    by (inr d) h = inr (d, h)
