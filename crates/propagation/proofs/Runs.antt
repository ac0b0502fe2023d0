-- A clause whose literals are searched in two runs, of which the second one goes along literals that all go up by one number.
use Rattle.std.proofs.Common.{arith, ◌≡◌, ◌∙◌, ℕ, ◌+◌, ◌<◌, ◌≤◌, List, Bool, true, false, Option, Some, None, IfSome, length, get_or, ltb, map, refl, sym, ap, subst}
use Rattle.std.specs.Prelude.{MatchOption}
use Rattle.std.proofs.lemmas.Bool.Decides.{nat_tests}
use Rattle.std.proofs.lemmas.List.{get_or-map, length-map}
use Rattle.clause_base.specs.Clause.{has_literal}
use Rattle.clause_base.specs.View.{shifted}
use Rattle.clause_base.proofs.published.ViewLemmas.{up_high, up_low}
use Rattle.propagation.specs.Pending.{AreFalseFrom, IsSought, is_free}

pub as_long : (xs lits : List ℕ) (f : ℕ → ℕ) → xs ≡ map f lits → length lits ≡ length xs
as_long xs lits f e = sym (ap (λ (ys : List ℕ). length ys) e ∙ length-map lits f)

-- the literal at a place of a view, by the one that stands there
item : (xs lits : List ℕ) (limit low high p : ℕ) → xs ≡ map (shifted limit low high) lits → p < length lits → shifted limit low high (get_or lits p 0) ≡ get_or xs p 0
item xs lits limit low high p value inside =
    sym (get_or-map (shifted limit low high) lits p 0 0 inside) ∙ sym (ap (λ (ys : List ℕ). get_or ys p 0) value)

pub low_item : (xs lits : List ℕ) (limit low high p : ℕ) → xs ≡ map (shifted limit low high) lits → p < length lits → get_or lits p 0 < limit
    → low + get_or lits p 0 ≡ get_or xs p 0
low_item xs lits limit low high p value inside h = sym (up_low limit low high (get_or lits p 0) h) ∙ item xs lits limit low high p value inside

pub high_item : (xs lits : List ℕ) (limit low high p : ℕ) → xs ≡ map (shifted limit low high) lits → p < length lits → limit ≤ get_or lits p 0
    → high + get_or lits p 0 ≡ get_or xs p 0
high_item xs lits limit low high p value inside h = sym (up_high limit low high (get_or lits p 0) h) ∙ item xs lits limit low high p value inside

module _ (trail clause lits : List ℕ) (up skipped low place high : ℕ) (within : high ≤ length clause)
    (same : (p : ℕ) → place ≤ p → p < length clause → up + get_or lits p 0 ≡ get_or clause p 0) where
  pub sought_none : (r : Option ℕ) → IsSought trail lits up skipped place high r → AreFalseFrom trail clause skipped low place
      → MatchOption r (AreFalseFrom trail clause skipped low high) (λ p. is_free (has_literal trail) (get_or clause p 0) ≡ true)
  sought_none None h before = λ p l lt ne. by p l lt ne (ltb p place) refl
    where
      by : (p : ℕ) → low ≤ p → p < high → (get_or clause p 0 ≡ skipped → ⊥) → (b : Bool) → ltb p place ≡ b → is_free (has_literal trail) (get_or clause p 0) ≡ false
      by p l lt ne true e = before p l (grind (arith, nat_tests)) ne
      by p l lt ne false e =
          let le : place ≤ p = grind (arith, nat_tests) in
          let at = same p le (omega (arith, lt, within)) in
          subst (λ (n : ℕ). is_free (has_literal trail) n ≡ false) at (h p le lt (subst (λ (n : ℕ). n ≡ skipped → ⊥) (sym at) ne))
  sought_none (Some p) h before = subst (λ (n : ℕ). is_free (has_literal trail) n ≡ true) (same p h.0 (omega (arith, h.1, within))) h.3

  pub sought_other : (r : Option ℕ) → IsSought trail lits up skipped place high r → IfSome r (λ p. get_or clause p 0 ≡ skipped → ⊥)
  sought_other None h = tt
  sought_other (Some p) h = subst (λ (n : ℕ). n ≡ skipped → ⊥) (same p h.0 (omega (arith, h.1, within))) h.2
