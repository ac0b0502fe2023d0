use Rattle.std.proofs.Common.{arith, ℕ, ◌+◌, ◌*◌, ◌<◌, ◌≤◌}
use Rattle.std.proofs.Math.Nat.{mul-le-mul_left, mul_comm}
use Rattle.formula_defs.specs.Layout.{Layout, IsLayout, width}

-- Products below the number of all variables.

pub product_le : (a b c : ℕ) → a ≤ b → a * c ≤ b * c
product_le a b c h = let m = mul-le-mul_left c h in let x = mul_comm a c in let y = mul_comm b c in omega (arith, m, x, y)

-- the variables before a step
pub start_within : (z : Layout) (step : ℕ) → IsLayout z → step ≤ z.horizon → step * width z ≤ 2147483647
start_within z step h le = let m = product_le step z.horizon (width z) le in omega (arith, m, h)

-- the variables up to the end of a step
pub step_within : (z : Layout) (step : ℕ) → IsLayout z → step < z.horizon → step * width z + width z ≤ 2147483647
step_within z step h lt =
    let le : step + 1 ≤ z.horizon = omega arith in
    let m = product_le (step + 1) z.horizon (width z) le in omega (arith, m, h)

-- the variables up to the end of a time
pub time_within : (z : Layout) (time : ℕ) → IsLayout z → time ≤ z.horizon → z.horizon * width z + time * z.facts + z.facts ≤ 2147483647
time_within z time h le =
    let up : time + 1 ≤ z.horizon + 1 = omega arith in
    let m = product_le (time + 1) (z.horizon + 1) z.facts up in omega (arith, m, h)
