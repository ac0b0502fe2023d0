-- What a look-up tells.
use Rattle.std.proofs.Common.{arith, ◌≡◌, ℕ, ◌<◌, List, Bool, true, false, cond, length, refl, ap, sym, ◌∙◌, Option, Some, None}
use Rattle.pd_model.specs.declared.atoms.Atom.{Atom}
use Rattle.pd_model.specs.State.{is_in}
use Rattle.grounding_defs.specs.Simplify.{place}
use Rattle.std.specs.Prelude.{slice_get, MatchOption}
use Rattle.grounding_defs.specs.Sorted.{atom_less, IsSorted}
use Rattle.grounding_defs.proofs.published.Places.{place_below, place_is, found_in}
use Rattle.grounding_defs.specs.Simplify.{place_in}

-- the list has the atom, at this place
pub record Placed (xs : List Atom) (a : Atom) (i : ℕ) : Type 0 where
  pub has : is_in a xs ≡ true
  pub at : place xs a ≡ i
  pub below : i < length xs

pub placed : (xs : List Atom) (a : Atom) (o : Option ℕ) (i : ℕ) → o ≡ place_in xs a → o ≡ Some i → Placed xs a i
placed xs a o i e f = step (is_in a xs) refl (sym f ∙ e)
  where
    some_is : (m n : ℕ) → Some m ≡ Some n → m ≡ n
    some_is m n h = cc

    step : (b : Bool) → is_in a xs ≡ b → Some i ≡ cond b (Some (place xs a)) None → Placed xs a i
    step true has h =
        let at : place xs a ≡ i = sym (some_is i (place xs a) h) in
        record { has = has; at = at; below = omega (arith, place_below xs a has, at) }
    step false has h = cc

-- what a table of sorted atoms tells is the place of the definitions
pub told_place : (facts : List Atom) (a : Atom) (o : Option ℕ) → IsSorted atom_less facts → MatchOption o (is_in a facts ≡ false) (λ n. slice_get facts n ≡ Some a) → o ≡ place_in facts a
told_place facts a None sorted none = sym (ap (λ (t : Bool). cond t (Some (place facts a)) None) none)
told_place facts a (Some n) sorted at = ap Some (sym (place_is facts n a sorted at)) ∙ sym (ap (λ (t : Bool). cond t (Some (place facts a)) None) (found_in facts n a at))
