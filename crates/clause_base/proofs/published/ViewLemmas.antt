-- The literals of a view, by those that stand there.
use Rattle.std.proofs.Common.{arith, ◌≡◌, ◌∙◌, ℕ, ◌+◌, ◌<◌, ◌≤◌, List, true, false, All, length, get_or, map, sym, ap, subst}
use Rattle.std.specs.Prelude.{nat_lt}
use Rattle.std.proofs.lemmas.Bool.Decides.{nat_tests}
use Rattle.std.proofs.lemmas.List.{get_or-map, length-map}
use Rattle.clause_base.specs.Clause.{IsRising}
use Rattle.clause_base.specs.View.{shifted, IsMoved, StaysCode}
use Rattle.clause_base.proofs.published.ClauseLemmas.{not_falling}

pub up_low : (limit low high l : ℕ) → l < limit → shifted limit low high l ≡ low + l
up_low limit low high l h = let t : nat_lt l limit ≡ true = grind (arith, nat_tests) in rw t

pub up_high : (limit low high l : ℕ) → limit ≤ l → shifted limit low high l ≡ high + l
up_high limit low high l h = let t : nat_lt l limit ≡ false = grind (arith, nat_tests) in rw t

-- a place of a view is one of the literals as they stand
pub within : (f : ℕ → ℕ) (lits now : List ℕ) (place : ℕ) → map f lits ≡ now → place < length now → place < length lits
within f lits now place v lt = omega (arith, lt, sym (length-map lits f) ∙ ap (λ (xs : List ℕ). length xs) v)

-- rising literals that are read as they stand
pub rising_moved : (limit low high : ℕ) (lits : List ℕ) → All (StaysCode limit low high) lits → IsRising lits → IsMoved limit low high lits
rising_moved limit low high lits codes rising = record {
  codes = codes;
  past = λ p q le inside past. omega (arith, past, not_falling lits rising p q le inside);
}

-- the literal at a place of a view, by the one that stands there
module _ (xs lits : List ℕ) (limit low high place l : ℕ) (value : xs ≡ map (shifted limit low high) lits) (moved : IsMoved limit low high lits) (inside : place < length xs)
    (read : l ≡ get_or lits place 0) (small : l ≤ 4294967295) where
  inside_lits : place < length lits
  inside_lits = within (shifted limit low high) lits xs place (sym value) inside

  at : shifted limit low high l ≡ get_or xs place 0
  at =
      ap (shifted limit low high) read
      ∙ sym (get_or-map (shifted limit low high) lits place 0 0 inside_lits)
      ∙ sym (ap (λ (ys : List ℕ). get_or ys place 0) value)

  fits : shifted limit low high l ≤ 4294967295
  fits = subst (λ (n : ℕ). n ≤ 4294967295 → shifted limit low high n ≤ 4294967295) (sym read) (moved.codes place 0 inside_lits) small
