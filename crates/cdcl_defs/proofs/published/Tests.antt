-- What tests say of their parts: std's lemmas under the names that the proofs of runs use, two of equal numbers, and one of flags.
use Rattle.std.proofs.Common.{arith, ◌≡◌, ◌==◌, ℕ, zero, suc, List, [], ◌∷◌, set, Bool, true, false, not, ◌&&◌, refl, sym, ap, ◌∙◌, get_or-set_other}
use Rattle.std.proofs.Math.Bool.{and-true}
use Rattle.std.proofs.lemmas.Bool.Decides.{nat_tests}
pub use Rattle.std.proofs.Math.Bool.{or-true as or_true, and-false as and_false}
use Rattle.cdcl_defs.specs.State.{is_kept}
pub use Rattle.std.proofs.lemmas.Bool.{or_cases as or_split, or_parts as or_none, and_parts as and_split, and_from as and_join, not-true as not_split, false_from_ne_true as not_true}

pub apart : (b : Bool) → b ≡ true → b ≡ false → ⊥
apart true e f = cc
apart false e f = cc

pub same_test : (m n : ℕ) → m ≡ n → (m == n) ≡ true
same_test m n e = grind (arith, nat_tests)

pub test_same : (m n : ℕ) → (m == n) ≡ true → m ≡ n
test_same m n e = grind (arith, nat_tests)

dropped_flag : (kept : List Bool) (n : ℕ) → is_kept (set kept n false) n ≡ false
dropped_flag [] n = refl
dropped_flag (b ∷ kept) zero = refl
dropped_flag (b ∷ kept) (suc n) = dropped_flag kept n

-- where one clause is dropped, those are kept that were and are another one
pub set_flag : (kept : List Bool) (m n : ℕ) → is_kept (set kept m false) n ≡ (is_kept kept n && not (m == n))
set_flag kept m n = by (m == n) refl
  where
    by : (b : Bool) → (m == n) ≡ b → is_kept (set kept m false) n ≡ (is_kept kept n && not b)
    by true f = ap (is_kept (set kept m false)) (sym (test_same m n f)) ∙ dropped_flag kept m ∙ sym (and_false (is_kept kept n))
    by false f = get_or-set_other kept m n false false (λ g. apart (m == n) (same_test m n (sym g)) f) ∙ sym (and-true (is_kept kept n))
