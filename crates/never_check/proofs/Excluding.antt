-- Two literals of a goal that the known clauses exclude do it by themselves.
use Rattle.std.proofs.Common.{◌≡◌, ◌++◌, ◌+◌, ◌*◌, ℕ, List, [], ◌∷◌, Bool, true, ◌||◌, refl, sym, subst, ◌⊎◌, inl, inr}
use Rattle.std.specs.List.{AllByRecursion}
use Rattle.gt_core.specs.Literal.{opposite, is_in}
use Rattle.gt_core.specs.Interference.{has_clause}
use Rattle.gt_core.specs.Task.{Task}
use Rattle.gt_core.proofs.published.Basics.{Among, or_split, or_left, or_right}
use Rattle.gt_core.proofs.published.Literals.{in_among, among_in, in_split, add_opposite, delete_opposite}
use Rattle.implied_literals.specs.Known.{IsFull}
use Rattle.implied_literals.specs.Rows.{HasNoPair}
use Rattle.never_defs.specs.Propagation.{IsRefuted}
use Rattle.never_defs.specs.Forward.{GoalPassesForward}
use Rattle.never_check.specs.Follow.{HasAll, Obeys}
use Rattle.never_check.specs.Rules.{ObeysRules}
use Rattle.never_check.specs.Verdicts.{AreRefuted, HasLeast}
use Rattle.never_check.specs.declared.rules.Rules.{Rules}
use Rattle.never_check.proofs.Grown.{pair_from}
use Rattle.never_check.proofs.Least.{least_propagated, plain_refuted, refuted_more}

module _ (rules : Rules) (none : rules.clauses.now ≡ []) where
  full_obeys : (set : ℕ → Bool) → IsFull (has_clause rules.known.now.clauses) [] set → ObeysRules rules set
  full_obeys set full = (full, subst (λ (cs : List (List ℕ)). AllByRecursion (Obeys set) cs) (sym none) tt)

  -- two full sets together are full
  both_full : (s t : ℕ → Bool) → IsFull (has_clause rules.known.now.clauses) [] s → IsFull (has_clause rules.known.now.clauses) [] t → IsFull (has_clause rules.known.now.clauses) [] (λ m. s m || t m)
  both_full s t f g = record {
    given = tt;
    single = λ l v. or_left (s l) (t l) (f.single l v);
    chain = λ x y i v. elim (or_split (s x) (t x) i) [ inl h ↦ or_left (s y) (t y) (f.chain x y h v) | inr h ↦ or_right (s y) (t y) (g.chain x y h v) ];
  }

  module _ (lit : ℕ) (alone : HasLeast rules (lit ∷ [])) where
    -- the literals that follow from one of some literals together with one more
    abbrev united : (before : List ℕ) → AllByRecursion (λ a. HasLeast rules (a ∷ lit ∷ [])) before → ℕ → Bool
    united [] each m = is_in alone.0.literals m
    united (a ∷ before) each m = is_in each.0.0.literals m || united before each.1 m

    united_full : (before : List ℕ) (each : AllByRecursion (λ a. HasLeast rules (a ∷ lit ∷ [])) before) → IsFull (has_clause rules.known.now.clauses) [] (united before each)
    united_full [] each = (least_propagated rules (lit ∷ []) alone.0 alone.1).full
    united_full (a ∷ before) each =
        both_full (is_in each.0.0.literals) (united before each.1) (least_propagated rules (a ∷ lit ∷ []) each.0.0 each.0.1).full (united_full before each.1)

    united_has : (before : List ℕ) (each : AllByRecursion (λ a. HasLeast rules (a ∷ lit ∷ [])) before) (l : ℕ) → Among l before → united before each l ≡ true
    united_has [] each l i = absurd i
    united_has (a ∷ before) each l (inl same) = or_left (is_in each.0.0.literals l) (united before each.1 l) (each.0.1.has l (among_in (a ∷ lit ∷ []) l (inl same)))
    united_has (a ∷ before) each l (inr i) = or_right (is_in each.0.0.literals l) (united before each.1 l) (united_has before each.1 l i)

    -- what follows from one literal follows from it and another
    alone_within : (a : ℕ) (has : HasLeast rules (a ∷ lit ∷ [])) → HasAll (is_in has.0.literals) alone.0.literals
    alone_within a has =
        let p = least_propagated rules (a ∷ lit ∷ []) has.0 has.1 in
        alone.1.sound (is_in has.0.literals) ((p.full, p.unit), λ l i. has.1.has l (among_in (a ∷ lit ∷ []) l (inr (in_among (lit ∷ []) l i))))

    united_apart : (before : List ℕ) (each : AllByRecursion (λ a. HasLeast rules (a ∷ lit ∷ [])) before) (m : ℕ) → united before each m ≡ true → is_in alone.0.literals (opposite m) ≡ true → ⊥
    united_apart [] each m t o = pair_from (is_in alone.0.literals) m t o alone.1.apart
    united_apart (a ∷ before) each m t o = elim (or_split (is_in each.0.0.literals m) (united before each.1 m) t) [
      | inl h ↦ pair_from (is_in each.0.0.literals) m h (alone_within a each.0 (opposite m) o) each.0.1.apart
      | inr h ↦ united_apart before each.1 m h o
    ]

    -- literals that are refuted with one more, but not without it, are so by one of them
    pub some_partner : (before : List ℕ) → HasLeast rules before → AllByRecursion (λ a. HasLeast rules (a ∷ lit ∷ [])) before → AreRefuted rules (before ++ lit ∷ []) → ⊥
    some_partner before all each refuted =
        refuted (λ m. is_in all.0.literals m || is_in alone.0.literals m)
        (record {
          given = λ l i. elim (in_split before (lit ∷ []) l i) [
            | inl h ↦ or_left (is_in all.0.literals l) (is_in alone.0.literals l) (all.1.has l h)
            | inr h ↦ or_right (is_in all.0.literals l) (is_in alone.0.literals l) (alone.1.has l h)
          ];
          full = whole;
          unit = (full_obeys (λ m. is_in all.0.literals m || is_in alone.0.literals m) whole).1;
        }) pairless
      where
        whole : IsFull (has_clause rules.known.now.clauses) [] (λ m. is_in all.0.literals m || is_in alone.0.literals m)
        whole = both_full (is_in all.0.literals) (is_in alone.0.literals) (least_propagated rules before all.0 all.1).full (least_propagated rules (lit ∷ []) alone.0 alone.1).full

        within : HasAll (united before each) all.0.literals
        within = all.1.sound (united before each) (full_obeys (united before each) (united_full before each), λ l i. united_has before each l (in_among before l i))

        pairless : HasNoPair (λ m. is_in all.0.literals m || is_in alone.0.literals m)
        pairless f t u = by (or_split (is_in all.0.literals (2 * f)) _ t) (or_split (is_in all.0.literals (2 * f + 1)) _ u)
          where
            by : (is_in all.0.literals (2 * f) ≡ true) ⊎ (is_in alone.0.literals (2 * f) ≡ true) → (is_in all.0.literals (2 * f + 1) ≡ true) ⊎ (is_in alone.0.literals (2 * f + 1) ≡ true) → ⊥
            by (inl x) (inl y) = all.1.apart f x y
            by (inr x) (inr y) = alone.1.apart f x y
            by (inl x) (inr y) = united_apart before each (2 * f) (within (2 * f) x) (subst (λ (m : ℕ). is_in alone.0.literals m ≡ true) (sym (add_opposite (2 * f) f refl)) y)
            by (inr x) (inl y) = united_apart before each (2 * f + 1) (within (2 * f + 1) y) (subst (λ (m : ℕ). is_in alone.0.literals m ≡ true) (sym (delete_opposite (2 * f + 1) f refl)) x)

  -- a goal is excluded where some of its literals are
  pub excluded_by_some : (task : Task) (some : List ℕ) → HasAll (is_in task.goal) some → AreRefuted rules some → IsRefuted rules.known.now.clauses [] (is_in some) × GoalPassesForward task rules.known.now.clauses []
  excluded_by_some task some has refuted = (plain_refuted rules none some refuted, λ hope. plain_refuted rules none task.goal (refuted_more rules some task.goal has refuted))

-- ---- lists of one and of two

pub one_has : (ls : List ℕ) (x : ℕ) → is_in ls x ≡ true → HasAll (is_in ls) (x ∷ [])
one_has ls x h l i = elim (in_among (x ∷ []) l i) [ inl s ↦ subst (λ (m : ℕ). is_in ls m ≡ true) (sym s) h | inr z ↦ absurd z ]

pub two_have : (ls : List ℕ) (x y : ℕ) → is_in ls x ≡ true → is_in ls y ≡ true → HasAll (is_in ls) (x ∷ y ∷ [])
two_have ls x y h k l i = elim (in_among (x ∷ y ∷ []) l i) [ inl s ↦ subst (λ (m : ℕ). is_in ls m ≡ true) (sym s) h | inr j ↦ one_has ls y k l (among_in (y ∷ []) l j) ]
