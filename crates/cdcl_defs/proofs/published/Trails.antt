use Rattle.std.proofs.Common.{arith, ◌≡◌, ◌==◌, ℕ, ◌-◌, List, [], ◌∷◌, ◌++◌, reverse, Bool, true, false, ◌||◌, refl, sym, ap, ◌∙◌, subst, if◌then◌else◌, Option, Some, None, ◌⊎◌, inl, inr}
use Rattle.std.specs.List.{list_any}
use Rattle.std.proofs.lemmas.List.{reverse-append}
use Rattle.std.proofs.lemmas.List.Folds.{list_any-append}
use Rattle.clause_base.specs.Literal.{opposite}
use Rattle.cdcl_defs.specs.declared.trail.Assigned.{Assigned}
use Rattle.cdcl_defs.specs.State.{is_on}
use Rattle.cdcl_defs.specs.Learn.{backtracked}
use Rattle.cdcl_defs.specs.Reduce.{is_reason, has_forced}
use Rattle.cdcl_defs.specs.Trail.{HasReason, IsEntry, IsTrail}
use Rattle.cdcl_defs.proofs.published.Tests.{or_true, or_split, apart, same_test, test_same}
use Rattle.cdcl_defs.proofs.published.WalkLaw.{opposite_twice}

or_swap : (a b : Bool) → (a || (b || false)) ≡ (b || a)
or_swap true true = refl
or_swap true false = refl
or_swap false true = refl
or_swap false false = refl

reverse-cons : (a : Assigned) (trail : List Assigned) → reverse (a ∷ trail) ≡ reverse trail ++ a ∷ []
reverse-cons a trail = reverse-append (a ∷ []) trail

any_reverse : (p : Assigned → Bool) (trail : List Assigned) → list_any p (reverse trail) ≡ list_any p trail
any_reverse p [] = refl
any_reverse p (a ∷ trail) =
    ap (λ (t : List Assigned). list_any p t) (reverse-cons a trail)
    ∙ list_any-append p (reverse trail) (a ∷ [])
    ∙ or_swap (list_any p (reverse trail)) (p a)
    ∙ ap (λ (b : Bool). p a || b) (any_reverse p trail)

-- the same literals are on a trail read backwards
pub is_on-reverse : (trail : List Assigned) (l : ℕ) → is_on (reverse trail) l ≡ is_on trail l
is_on-reverse trail l = any_reverse (λ a. a.literal == l) trail

-- and the same clauses forced its entries
pub has_forced-reverse : (trail : List Assigned) (number : ℕ) → has_forced (reverse trail) number ≡ has_forced trail number
has_forced-reverse trail number = any_reverse (λ a. is_reason number a.reason) trail

pub trail_tail : (named : ℕ → Option (List ℕ)) (newer older : List Assigned) → IsTrail named (newer ++ older) → IsTrail named older
trail_tail named [] older t = t
trail_tail named (a ∷ newer) older t = trail_tail named newer older t.1

-- to backtrack leaves the oldest entries
pub backtracked_is : (level : ℕ) (trail : List Assigned) → (rest : List Assigned) × (trail ≡ backtracked level trail ++ rest)
backtracked_is level [] = ([], refl)
backtracked_is level (a ∷ trail) = by a.reason (level == 0) (backtracked_is level trail) (backtracked_is (level - 1) trail)
  where
    by : (o : Option ℕ) (b : Bool) → ((rest : List Assigned) × (trail ≡ backtracked level trail ++ rest)) → ((rest : List Assigned) × (trail ≡ backtracked (level - 1) trail ++ rest)) → (rest : List Assigned) × ((a ∷ trail) ≡ elim o as (λ _. List Assigned) [ Some r ↦ a ∷ backtracked level trail | None ↦ if b then [] else a ∷ backtracked (level - 1) trail ] ++ rest)
    by (Some r) b h k = (h.0, ap (λ (t : List Assigned). a ∷ t) h.1)
    by None true h k = (a ∷ trail, refl)
    by None false h k = (k.0, ap (λ (t : List Assigned). a ∷ t) k.1)

pub backtracked_trail : (named : ℕ → Option (List ℕ)) (level : ℕ) (trail : List Assigned) → IsTrail named (reverse trail) → IsTrail named (reverse (backtracked level trail))
backtracked_trail named level trail t =
    let c = backtracked_is level trail in
    let e : reverse trail ≡ reverse c.0 ++ reverse (backtracked level trail) = ap reverse c.1 ∙ reverse-append (backtracked level trail) c.0 in
    trail_tail named (reverse c.0) (reverse (backtracked level trail)) (subst (IsTrail named) e t)

reason_as : (named others : ℕ → Option (List ℕ)) (older : List Assigned) (l : ℕ) (o : Option ℕ) → ((r : ℕ) (k : List ℕ) → is_reason r o ≡ true → named r ≡ Some k → others r ≡ Some k) → HasReason named older l o → HasReason others older l o
reason_as named others older l None n h = tt
reason_as named others older l (Some r) n h = record { clause = h.clause; is_named = n r h.clause (same_test r r refl) h.is_named; has = h.has; others = h.others }

-- a trail stands over other names, where the clauses that forced its entries keep theirs
pub trail_as : (named others : ℕ → Option (List ℕ)) (es : List Assigned) → ((r : ℕ) (k : List ℕ) → has_forced es r ≡ true → named r ≡ Some k → others r ≡ Some k) → IsTrail named es → IsTrail others es
trail_as named others [] n t = tt
trail_as named others (a ∷ es) n t = (
  record {
    off = t.0.off;
    free = t.0.free;
    reason = reason_as named others es a.literal a.reason (λ r k e. n r k (rw e)) t.0.reason;
  },
  trail_as named others es (λ r k e. n r k (rw e (or_true (is_reason r a.reason)))) t.1,
)

-- one more entry
pub trail_push : (named : ℕ → Option (List ℕ)) (trail : List Assigned) (a : Assigned) → IsTrail named (reverse trail) → IsEntry named a (reverse trail) → IsTrail named (reverse (trail ++ a ∷ []))
trail_push named trail a t e = subst (IsTrail named) (sym (reverse-append trail (a ∷ []))) (e, t)

-- no literal is on a trail together with its opposite
pub trail_apart : (named : ℕ → Option (List ℕ)) (es : List Assigned) (l : ℕ) → IsTrail named es → is_on es l ≡ true → is_on es (opposite l) ≡ true → ⊥
trail_apart named [] l t e f = cc
trail_apart named (a ∷ es) l t e f = by (trail_apart named es l t.1) (or_split (a.literal == l) (is_on es l) e) (or_split (a.literal == opposite l) (is_on es (opposite l)) f)
  where
    by : (is_on es l ≡ true → is_on es (opposite l) ≡ true → ⊥) → ((a.literal == l) ≡ true) ⊎ (is_on es l ≡ true) → ((a.literal == opposite l) ≡ true) ⊎ (is_on es (opposite l) ≡ true) → ⊥
    by on (inl s) (inl u) = own (test_same a.literal l s) (test_same a.literal (opposite l) u)
      where
        own : a.literal ≡ l → a.literal ≡ opposite l → ⊥
        own p q = let h : l ≡ opposite l = sym p ∙ q in absurd (grind arith)
    by on (inl s) (inr u) = apart (is_on es (opposite l)) u (ap (λ (k : ℕ). is_on es (opposite k)) (sym (test_same a.literal l s)) ∙ t.0.free)
    by on (inr s) (inl u) =
        let p : opposite a.literal ≡ l = ap opposite (test_same a.literal (opposite l) u) ∙ opposite_twice l in
        apart (is_on es l) s (ap (is_on es) (sym p) ∙ t.0.free)
    by on (inr s) (inr u) = on s u
