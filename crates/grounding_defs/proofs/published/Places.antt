-- The numbers of facts, and their literals.
use Rattle.std.proofs.Common.{arith, ◌≡◌, ℕ, ◌==◌, ◌+◌, ◌*◌, ◌<◌, zero, suc, List, [], ◌∷◌, Bool, true, false, ◌&&◌, ◌||◌, refl, ap, sym, ◌∙◌, cond, subst, length, Some, IsTrue}
use Rattle.std.specs.Prelude.{slice_get}
use Rattle.std.proofs.lemmas.Bool.{eqb-true, eq-eqb, ne_eqb, false_from_ne_true}
use Rattle.std.proofs.lemmas.Map.Keys.{any_passes_from_place}
use Rattle.gt_core.specs.Literal.{holds}
use Rattle.gt_core.proofs.published.Basics.{each_at, same_if}
use Rattle.gt_core.proofs.published.Literals.{holds_add, holds_delete}
use Rattle.pd_model.specs.State.{is_in, same_atom}
use Rattle.pd_model.specs.Instance.{agrees}
use Rattle.pd_model.specs.declared.atoms.Atom.{Atom}
use Rattle.pd_model.proofs.published.Equality.{same_is, same_refl}
use Rattle.grounding_defs.specs.Sorted.{atom_less, IsSorted}
use Rattle.grounding_defs.specs.Simplify.{place, fact_literal}
use Rattle.grounding_defs.proofs.published.Orders.{atoms}
use Rattle.grounding_defs.proofs.published.Sets.{not_less}
use Rattle.grounding_defs.proofs.published.Members.{atom_among}

-- an atom of the list lies at its place
pub at_place : (facts : List Atom) (a : Atom) → is_in a facts ≡ true → slice_get facts (place facts a) ≡ Some a
at_place [] a h = cc
at_place (b ∷ facts) a h = step (same_atom a b) refl h (at_place facts a)
  where
    step : (same : Bool) → same_atom a b ≡ same → (same || is_in a facts) ≡ true → (is_in a facts ≡ true → slice_get facts (place facts a) ≡ Some a) → slice_get (b ∷ facts) (cond same 0 (suc (place facts a))) ≡ Some a
    step true e t ih = ap Some (sym (same_is a b e))
    step false e t ih = ih t

pub place_below : (facts : List Atom) (a : Atom) → is_in a facts ≡ true → place facts a < length facts
place_below [] a h = cc
place_below (b ∷ facts) a h = step (same_atom a b) h (place_below facts a)
  where
    step : (same : Bool) → (same || is_in a facts) ≡ true → (is_in a facts ≡ true → place facts a < length facts) → cond same 0 (suc (place facts a)) < length (b ∷ facts)
    step true t ih = omega arith
    step false t ih = let l = ih t in omega (arith, l)

-- what lies at a number is in the list
pub found_in : (facts : List Atom) (f : ℕ) (a : Atom) → slice_get facts f ≡ Some a → is_in a facts ≡ true
found_in facts f a e = any_passes_from_place (same_atom a) facts f a e (same_refl a)

-- in a sorted list the number is the place
pub place_is : (facts : List Atom) (f : ℕ) (a : Atom) → IsSorted atom_less facts → slice_get facts f ≡ Some a → place facts a ≡ f
place_is [] f a s e = cc
place_is (b ∷ facts) zero a s e = ap (λ (t : Bool). cond t 0 (suc (place facts a))) (subst (λ (c : Atom). same_atom a c ≡ true) (some_is a b (sym e)) (same_refl a))
  where
    some_is : (x y : Atom) → Some x ≡ Some y → x ≡ y
    some_is x y h = cc
place_is (b ∷ facts) (suc f) a s e = ap (λ (t : Bool). cond t 0 (suc (place facts a))) other ∙ ap suc (place_is facts f a s.1 e)
  where
    other : same_atom a b ≡ false
    other = false_from_ne_true (same_atom a b) (λ t.
        let less : atom_less b a ≡ true = each_at (λ c. IsTrue (atom_less b c)) facts a s.0 (atom_among a facts (found_in facts f a e)) in
        not_less atom_less atoms b (subst (λ (c : Atom). atom_less b c ≡ true) (same_is a b t) less))

-- atoms of the list at one place are one
place_same : (facts : List Atom) (a b : Atom) → is_in a facts ≡ true → is_in b facts ≡ true → place facts b ≡ place facts a → a ≡ b
place_same facts a b ha hb e = some_is a b (sym (at_place facts a ha) ∙ ap (slice_get facts) (sym e) ∙ at_place facts b hb)
  where
    some_is : (x y : Atom) → Some x ≡ Some y → x ≡ y
    some_is x y h = cc

-- the literal of a fact holds where the fact has that truth
pub literal_at : (facts : List Atom) (n : ℕ → Bool) (a : Atom) (want : Bool) → holds n (fact_literal facts a want) ≡ agrees want (n (place facts a))
literal_at facts n a true = holds_add n (place facts a)
literal_at facts n a false = holds_delete n (place facts a)

place_test : (facts : List Atom) (a b : Atom) (l m : ℕ) → is_in a facts ≡ true → is_in b facts ≡ true → (l ≡ m → place facts b ≡ place facts a) → (place facts b ≡ place facts a → l ≡ m) → (l == m) ≡ same_atom a b
place_test facts a b l m ha hb to from =
    same_if (l == m) (same_atom a b)
    (λ t. subst (λ (c : Atom). same_atom a c ≡ true) (place_same facts a b ha hb (to (eqb-true l m t))) (same_refl a))
    (λ t. eq-eqb l m (from (ap (place facts) (sym (same_is a b t)))))

-- two facts have one literal where they are one fact with one truth
pub literal_same : (facts : List Atom) (a b : Atom) (v w : Bool) → is_in a facts ≡ true → is_in b facts ≡ true → (fact_literal facts b w == fact_literal facts a v) ≡ (agrees v w && same_atom a b)
literal_same facts a b true true ha hb = place_test facts a b (2 * place facts b) (2 * place facts a) ha hb (λ e. omega arith) (λ e. omega arith)
literal_same facts a b false false ha hb = place_test facts a b (2 * place facts b + 1) (2 * place facts a + 1) ha hb (λ e. omega arith) (λ e. omega arith)
literal_same facts a b true false ha hb = ne_eqb (2 * place facts b + 1) (2 * place facts a) (λ e. omega arith)
literal_same facts a b false true ha hb = ne_eqb (2 * place facts b) (2 * place facts a + 1) (λ e. omega arith)

pub literal_below : (facts : List Atom) (a : Atom) (want : Bool) → is_in a facts ≡ true → fact_literal facts a want < 2 * length facts
literal_below facts a true h = let l = place_below facts a h in omega (arith, l)
literal_below facts a false h = let l = place_below facts a h in omega (arith, l)
