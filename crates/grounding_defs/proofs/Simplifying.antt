-- What is left of literals and effects means the same, in a state of numbered facts that tells of a state of atoms.
use Rattle.std.proofs.Common.{arith, ◌≡◌, ℕ, List, [], ◌∷◌, Bool, true, false, not, ◌&&◌, refl, ap, sym, ◌∙◌, cond, map, Option, Some, None, inl, inr}
use Rattle.std.specs.Prelude.{nat_lt, slice_get, filter_map}
use Rattle.std.specs.List.{list_any, list_all, filter, cons_option}
use Rattle.std.proofs.lemmas.Bool.{and_left, and_right, or_parts, or_cases, false_from_ne_true, not-false, both_ways}
use Rattle.gt_core.specs.Literal.{holds, all_hold}
use Rattle.gt_core.specs.Active.{is_active}
use Rattle.gt_core.specs.Lawful.{effect_less}
use Rattle.gt_core.proofs.published.Basics.{any_same}
use Rattle.pd_model.specs.State.{is_in, same_atom}
use Rattle.pd_model.specs.Instance.{agrees}
use Rattle.pd_model.specs.declared.atoms.Atom.{Atom}
use Rattle.pd_model.specs.declared.parts.Parts.{Parts}
use Rattle.pd_model.proofs.published.Equality.{same_is}
use Rattle.grounding_defs.specs.Instance.{GroundLiteral, Holds, Fixed, Change}
use Rattle.grounding_defs.specs.Sorted.{sorted_set}
use Rattle.grounding_defs.specs.Simplify.{place, fact_literal, number_of, simplified, is_never, any_never, is_left, effect_of}
use Rattle.grounding_defs.proofs.published.Lists.{any_map, any_filter}
use Rattle.grounding_defs.proofs.published.Orders.{numbers, effects}
use Rattle.grounding_defs.proofs.published.Sets.{all_sorted, any_sorted}
use Rattle.grounding_defs.proofs.Bridge.{literal_holds, literals_hold, names, named}
use Rattle.grounding_defs.proofs.published.Places.{at_place, literal_at, literal_same}

-- the state of numbered facts is that of their atoms, and the other atoms are as they were at first
pub record Tells (p : Parts) (facts : List Atom) (n : ℕ → Bool) (s : List Atom) : Type 0 where
  pub same : (f : ℕ) (a : Atom) → slice_get facts f ≡ Some a → n f ≡ is_in a s
  pub others : (a : Atom) → is_in a facts ≡ false → is_in a s ≡ is_in a p.init

-- whether the fact literal of a literal holds, where it has one
abbrev option_holds : (ℕ → Bool) → Option ℕ → Bool
option_holds n None = true
option_holds n (Some l) = holds n l

module _ (p : Parts) (facts : List Atom) (n : ℕ → Bool) (s : List Atom) (tells : Tells p facts n s) where
  fact_holds : (a : Atom) (want : Bool) → is_in a facts ≡ true → holds n (fact_literal facts a want) ≡ agrees want (is_in a s)
  fact_holds a want h = literal_at facts n a want ∙ ap (agrees want) (tells.same (place facts a) a (at_place facts a h))

  -- a literal that is not never true holds where its fact literal does
  positive : (a : Atom) (fact : Bool) → is_in a facts ≡ fact → (not fact && not (is_in a p.init)) ≡ false → option_holds n (cond fact (Some (fact_literal facts a true)) None) ≡ is_in a s
  positive a true h e = fact_holds a true h
  positive a false h e = sym (tells.others a h ∙ not-false (is_in a p.init) e)

  negative : (a : Atom) (fact : Bool) → is_in a facts ≡ fact → (not fact && is_in a p.init) ≡ false → option_holds n (cond fact (Some (fact_literal facts a false)) None) ≡ not (is_in a s)
  negative a true h e = fact_holds a false h
  negative a false h e = ap not (sym (tells.others a h ∙ e))

  one_literal : (x : GroundLiteral) → is_never p facts x ≡ false → option_holds n (number_of facts x) ≡ literal_holds s x
  one_literal (Holds a true) e = positive a (is_in a facts) refl e
  one_literal (Holds a false) e = negative a (is_in a facts) refl e
  one_literal (Fixed true) e = refl
  one_literal (Fixed false) e = cc

  never_one : (x : GroundLiteral) → is_never p facts x ≡ true → literal_holds s x ≡ false
  never_one (Holds a true) e = out (is_in a facts) refl e
    where
      out : (fact : Bool) → is_in a facts ≡ fact → (not fact && not (is_in a p.init)) ≡ true → is_in a s ≡ false
      out true h t = cc
      out false h t = tells.others a h ∙ negated (is_in a p.init) t
        where
          negated : (b : Bool) → not b ≡ true → b ≡ false
          negated true u = cc
          negated false u = refl
  never_one (Holds a false) e = within (is_in a facts) refl e
    where
      within : (fact : Bool) → is_in a facts ≡ fact → (not fact && is_in a p.init) ≡ true → not (is_in a s) ≡ false
      within true h t = cc
      within false h t = ap not (tells.others a h ∙ t)
  never_one (Fixed true) e = cc
  never_one (Fixed false) e = refl

  listed_hold : (xs : List GroundLiteral) → any_never p facts xs ≡ false → list_all (holds n) (filter_map (number_of facts) xs) ≡ literals_hold s xs
  listed_hold [] e = refl
  listed_hold (x ∷ xs) e =
      let parts = or_parts (is_never p facts x) (any_never p facts xs) e in
      step (number_of facts x) (filter_map (number_of facts) xs) ∙ λ i. one_literal x parts.0 i && listed_hold xs parts.1 i
    where
      step : (o : Option ℕ) (ls : List ℕ) → list_all (holds n) (cons_option o ls) ≡ (option_holds n o && list_all (holds n) ls)
      step None ls = refl
      step (Some l) ls = refl

  -- what is left of literals holds where they do, if none is never true
  pub simplified_hold : (xs : List GroundLiteral) → any_never p facts xs ≡ false → all_hold n (simplified facts xs) ≡ literals_hold s xs
  simplified_hold xs e = all_sorted nat_lt numbers (holds n) (filter_map (number_of facts) xs) ∙ listed_hold xs e

  -- and else they do not hold
  pub never_hold : (xs : List GroundLiteral) → any_never p facts xs ≡ true → literals_hold s xs ≡ false
  never_hold [] e = cc
  never_hold (x ∷ xs) e = elim (or_cases (is_never p facts x) (any_never p facts xs) e) [
    | inl h ↦ and_left _ _ (never_one x h)
    | inr h ↦ and_right _ _ (never_hold xs h)
  ]

  -- an effect that is left gives a fact a truth where the change does
  one_change : (a : Atom) (sign : Bool) → is_in a facts ≡ true → (e : Change) → (is_left p facts e && is_active n (fact_literal facts a sign) (effect_of facts e)) ≡ names s a sign e
  one_change a sign ha e = step (is_in e.atom facts) (any_never p facts e.condition) refl refl
    where
      turned : (signs same now : Bool) → ((signs && same) && now) ≡ (signs && (now && same))
      turned signs same now = grind arith

      other : is_in e.atom facts ≡ false → same_atom a e.atom ≡ false
      other h = false_from_ne_true (same_atom a e.atom) (λ t. both_ways (is_in a facts) (ap (λ (b : Atom). is_in b facts) (same_is a e.atom t) ∙ h) ha)

      step : (fact never : Bool) → is_in e.atom facts ≡ fact → any_never p facts e.condition ≡ never → ((fact && not never) && is_active n (fact_literal facts a sign) (effect_of facts e)) ≡ names s a sign e
      step true false h v =
          (λ i. literal_same facts a e.atom sign e.adds ha h i && simplified_hold e.condition v i)
          ∙ turned (agrees sign e.adds) (same_atom a e.atom) (literals_hold s e.condition)
      step true true h v = sym (and_right (agrees sign e.adds) _ (and_left (literals_hold s e.condition) (same_atom a e.atom) (never_hold e.condition v)))
      step false never h v = sym (and_right (agrees sign e.adds) _ (and_right (literals_hold s e.condition) (same_atom a e.atom) (other h)))

  -- so do the effects of an action
  pub active_named : (a : Atom) (sign : Bool) → is_in a facts ≡ true → (changes : List Change)
      → list_any (is_active n (fact_literal facts a sign)) (sorted_set effect_less (map (effect_of facts) (filter (is_left p facts) changes))) ≡ named s a sign changes
  active_named a sign ha changes =
      any_sorted effect_less effects (is_active n (fact_literal facts a sign)) (map (effect_of facts) (filter (is_left p facts) changes))
      ∙ any_map (is_active n (fact_literal facts a sign)) (effect_of facts) (filter (is_left p facts) changes)
      ∙ any_filter (λ e. is_active n (fact_literal facts a sign) (effect_of facts e)) (is_left p facts) changes
      ∙ any_same _ _ changes (λ e among. one_change a sign ha e)
