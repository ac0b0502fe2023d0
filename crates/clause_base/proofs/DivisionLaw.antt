-- A division of numbers below 2 ^ 32 by one multiplication.
use Rattle.std.proofs.Common.{arith, ◌≡◌, ℕ, zero, suc, ◌+◌, ◌*◌, ◌/◌, ◌<◌, ◌≤◌, ap, sym, ◌∙◌, ◌⊎◌, inl, inr}
use Rattle.std.proofs.lemmas.Nat.{mul-le, le-div}
use Rattle.clause_base.proofs.ValueLemmas.{below_or}
use Rattle.std.proofs.Math.Nat.{div-zero, zero-div, mul-zero, div-eq_of_lt, div-eq_of_lt-le, div-mul-le_self, lt-div-mul-add}

-- the greatest number of 64 bits
abbrev most : ℕ
most = 18446744073709551615

-- the product is not less than the quotient's
low : (n d : ℕ) → n < 4294967296 → 0 < d → d ≤ n → n / d * 18446744073709551616 ≤ (n + 1) * (most / d)
low n d small some le =
    let square : n * d ≤ 4294967295 * 4294967295 = mul-le n d 4294967295 4294967295 (omega (arith, small)) (omega (arith, small, le)) in
    let factor : n ≤ most / d = le-div n most d some (omega (arith, square)) in
    let above : most < most / d * d + d = lt-div-mul-add some in
    let fits : n / d * d ≤ n = div-mul-le_self n d in
    let shares : n / d * 18446744073709551616 ≤ n / d * ((most / d + 1) * d) = mul-le (n / d) 18446744073709551616 (n / d) ((most / d + 1) * d) (omega arith) (omega (arith, above)) in
    let moved : n / d * ((most / d + 1) * d) ≡ n / d * d * (most / d + 1) = omega arith in
    let more : n / d * d * (most / d + 1) ≤ n * (most / d + 1) = mul-le (n / d * d) (most / d + 1) n (most / d + 1) fits (omega arith) in
    omega (arith, shares, moved, more, factor)

-- it is less than that of the next number
high : (n d : ℕ) → 0 < d → (n + 1) * (most / d) < (n / d + 1) * 18446744073709551616
high n d some =
    let next : n < n / d * d + d = lt-div-mul-add some in
    let fits : most / d * d ≤ most = div-mul-le_self most d in
    let less : (n + 1) * (most / d) ≤ (n / d + 1) * d * (most / d) = mul-le (n + 1) (most / d) ((n / d + 1) * d) (most / d) (omega (arith, next)) (omega arith) in
    let moved : (n / d + 1) * d * (most / d) ≡ (n / d + 1) * (most / d * d) = omega arith in
    let most_of : (n / d + 1) * (most / d * d) ≤ (n / d + 1) * most = mul-le (n / d + 1) (most / d * d) (n / d + 1) most (omega arith) fits in
    omega (arith, less, moved, most_of)

-- by cases: whether the number is less than the divisor
by_order : (n d : ℕ) → n < 4294967296 → 0 < d → (n < d) ⊎ (d ≤ n) → (n + 1) * (most / d) / 18446744073709551616 ≡ n / d
by_order n d small some (inr le) = div-eq_of_lt-le 18446744073709551616 (low n d small some le) (high n d some)
by_order n d small some (inl lt) =
    let none : n / d ≡ 0 = div-eq_of_lt lt in
    div-eq_of_lt-le 18446744073709551616 (omega (arith, none)) (high n d some)

-- one more than a number, times 2 ^ 64 - 1 divided by the divisor, has the quotient in its upper half; also where the divisor is 0
pub quotient_by_product : (n d : ℕ) → n < 4294967296 → (n + 1) * (18446744073709551615 / d) / 18446744073709551616 ≡ n / d
quotient_by_product n zero small =
    let none : (n + 1) * zero ≡ zero = mul-zero (n + 1) in
    ap (λ (k : ℕ). (n + 1) * k / 18446744073709551616) (div-zero most) ∙ ap (λ (k : ℕ). k / 18446744073709551616) none ∙ zero-div 18446744073709551616 ∙ sym (div-zero n)
quotient_by_product n (suc d) small = by_order n (suc d) small (omega arith) (below_or n (suc d))

-- the same of what a divisor keeps
pub quotient_kept : (n m factor by d : ℕ) → n < 4294967296 → m ≡ n → factor ≡ 18446744073709551615 / by → by ≡ d → (m + 1) * factor / 18446744073709551616 ≡ n / d
quotient_kept n m factor by d small same kept is =
    ap (λ (k : ℕ). (k + 1) * factor / 18446744073709551616) same ∙ ap (λ (k : ℕ). (n + 1) * k / 18446744073709551616) kept ∙ quotient_by_product n by small ∙ ap (λ (k : ℕ). n / k) is
