-- Sums and products that stop at the greatest number on the way are those that stop at the end.
use Rattle.std.proofs.Common.{arith, ◌≡◌, ℕ, ◌+◌, ◌*◌, ◌<◌, ◌≤◌, zero, suc, min, List, Bool, true, false, cond, length, get_or, drop, refl, ap, sym, ◌∙◌, ◌⊎◌, inl, inr}
use Rattle.std.specs.Prelude.{nat_le}
use Rattle.std.proofs.lemmas.List.{drop_more}
use Rattle.std.proofs.lemmas.Bool.{cases_lt}
use Rattle.std.proofs.lemmas.Bool.Decides.{nat_tests}
use Rattle.std.proofs.Math.Nat.{mul-le-mul_left, mul-le-mul_right}
use Rattle.pd_model.specs.Fits.{fitting}
use Rattle.pd_model.specs.declared.parts.Parts.{Parts}
use Rattle.grounding_defs.specs.Tuples.{product_of, saturated}
use Rattle.grounder.specs.own.Bindings.{size}

-- the greatest number of 64 bits
abbrev pub most : ℕ
most = 18446744073709551615

saturated_step : (n : ℕ) (b : Bool) → nat_le n most ≡ b → cond b n most ≡ min n most
saturated_step n true e = grind (arith, nat_tests)
saturated_step n false e = grind (arith, nat_tests)

pub saturated_is : (n : ℕ) → saturated n ≡ min n most
saturated_is n = saturated_step n (nat_le n most) refl

one_le : (k : ℕ) → 1 ≤ suc k
one_le k = omega arith

below : (x y : ℕ) → x < y → x ≤ y
below x y h = omega arith

past_most : (m a p : ℕ) → m < a → min (a * p) m ≡ min (m * p) m
past_most m a zero l = omega arith
past_most m a (suc p) l =
    let big : m ≤ m * suc p = omega (arith, mul-le-mul_left m (one_le p)) in
    let more : m * suc p ≤ a * suc p = mul-le-mul_right (suc p) (below m a l) in
    omega arith

-- one more factor
pub factor : (m a b p r : ℕ) → r ≡ min (a * b) m → min (a * (b * p)) m ≡ min (r * p) m
factor m a b p r e = step (cases_lt m (a * b))
  where
    assoc : a * (b * p) ≡ (a * b) * p
    assoc = omega arith

    step : (m < a * b) ⊎ (a * b ≤ m) → min (a * (b * p)) m ≡ min (r * p) m
    step (inl l) =
        let is : r ≡ m = omega (arith, e) in
        ap (λ (x : ℕ). min x m) assoc ∙ past_most m (a * b) p l ∙ ap (λ (x : ℕ). min (x * p) m) (sym is)
    step (inr l) =
        let is : r ≡ a * b = omega (arith, e) in
        ap (λ (x : ℕ). min x m) assoc ∙ ap (λ (x : ℕ). min (x * p) m) (sym is)

-- a loop over types: one more type
pub type_more : (p : Parts) (kinds : List ℕ) (i so_far n r : ℕ) → i < length kinds → n ≡ length (fitting p (get_or kinds i 0)) → r ≡ min (so_far * n) most
    → saturated (so_far * product_of p (drop i kinds)) ≡ saturated (r * product_of p (drop (i + 1) kinds))
type_more p kinds i so_far n r l count e =
    let parts : product_of p (drop i kinds) ≡ n * product_of p (drop (i + 1) kinds) = ap (product_of p) (drop_more kinds i 0 l) ∙ ap (λ (x : ℕ). x * product_of p (drop (i + 1) kinds)) (sym count) in
    ap (λ (x : ℕ). saturated (so_far * x)) parts ∙ saturated_is (so_far * (n * product_of p (drop (i + 1) kinds)))
    ∙ factor most so_far n (product_of p (drop (i + 1) kinds)) r e ∙ sym (saturated_is (r * product_of p (drop (i + 1) kinds)))

-- a loop over lists of objects: one more list
pub domain_more : (domains : List (List ℕ)) (i so_far : ℕ) (d : List ℕ) (r : ℕ) → i < length domains → d ≡ get_or domains i d → r ≡ min (so_far * length d) most
    → saturated (so_far * size (drop i domains)) ≡ saturated (r * size (drop (i + 1) domains))
domain_more domains i so_far d r l at e =
    let parts : size (drop i domains) ≡ length d * size (drop (i + 1) domains) = ap size (drop_more domains i d l) ∙ ap (λ (x : List ℕ). length x * size (drop (i + 1) domains)) (sym at) in
    ap (λ (x : ℕ). saturated (so_far * x)) parts ∙ saturated_is (so_far * (length d * size (drop (i + 1) domains)))
    ∙ factor most so_far (length d) (size (drop (i + 1) domains)) r e ∙ sym (saturated_is (r * size (drop (i + 1) domains)))

-- a count within the limit stays as it is
pub few_saturated : (limit n count : ℕ) → limit < most → count ≡ saturated n → count ≤ limit → n ≤ limit
few_saturated limit n count m e l = omega (arith, e, saturated_is n)

-- and one past the limit is past it
pub many_saturated : (limit n count : ℕ) → count ≡ saturated n → limit < count → limit < n
many_saturated limit n count e l = omega (arith, e, saturated_is n)
