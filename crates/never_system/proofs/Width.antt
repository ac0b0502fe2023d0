-- How many bits a number takes.
use Rattle.std.proofs.Common.{arith, ◌≡◌, ◌+◌, ◌-◌, ◌*◌, ◌^◌, ◌%◌, ◌<◌, ◌≤◌, ℕ, suc}
use Rattle.std.proofs.lemmas.Bool.Decides.{nat_tests}
use Rattle.std.proofs.lemmas.Nat.{pow_below}
use Rattle.never_system.specs.Blif.{width_from}

-- so many numbers differ by so few bits
pub found : (more width count : ℕ) → count ≤ 2 ^ width → width_from (suc more) width count ≡ width
unfolding width_from
found more width count few = grind (arith, nat_tests)

-- they need more
pub next : (more width count : ℕ) → 2 ^ width < count → width_from (suc more) width count ≡ width_from more (width + 1) count
unfolding width_from
next more width count many = grind (arith, nat_tests)

-- the same where the bits that may come are told by their greatest number
pub found_in : (width count : ℕ) → width < 14 → count ≤ 2 ^ width → width_from (14 - width) width count ≡ width
found_in width count low few = let e : 14 - width ≡ suc (13 - width) = omega arith in rw e (found (13 - width) width count few)

pub next_in : (width count : ℕ) → width < 14 → 2 ^ width < count → width_from (14 - width) width count ≡ width_from (14 - (width + 1)) (width + 1) count
next_in width count low many =
    let e : 14 - width ≡ suc (13 - width) = omega arith in
    let f : 14 - (width + 1) ≡ 13 - width = omega arith in
    rw (e, f) (next (13 - width) width count many)

-- no bits may come any more
pub last : (width count : ℕ) → width ≡ 14 → width_from (14 - width) width count ≡ 14
unfolding width_from
last width count is = let e : 14 - width ≡ 0 = omega arith in rw e is

-- a shift within 32 bits
pub shifted : (width : ℕ) → width < 14 → 1 * 2 ^ width % 4294967296 ≡ 2 ^ width
shifted width low = let below : 2 ^ width < 2 ^ 32 = pow_below width 32 (omega arith) in let one : 1 * 2 ^ width ≡ 2 ^ width = omega arith in rw one (omega (arith, below))
