use Rattle.std.proofs.Common.{arith, ◌≡◌, ℕ, ◌<◌, ◌≤◌}
use Rattle.formula_defs.specs.Layout.{Layout, IsLayout, action_at, conditional_at, fact_at}
pub use Rattle.gt_core.proofs.published.Lists.{each_number as each_place}
use Rattle.formula_defs.proofs.published.LayoutLaw.{step_within, time_within}

-- Variables of the first step, and of facts, have codes in 32 bits.

pub action_small : (z : Layout) (a x : ℕ) → IsLayout z → 0 < z.horizon → a < z.actions → x ≡ action_at z 0 a → x ≤ 2147483647
action_small z a x is h lt e = let w = step_within z 0 is h in omega (arith, w, h, lt, e)

pub conditional_small : (z : Layout) (j x : ℕ) → IsLayout z → 0 < z.horizon → j < z.conditional → x ≡ conditional_at z 0 j → x ≤ 2147483647
conditional_small z j x is h lt e = let w = step_within z 0 is h in omega (arith, w, h, lt, e)

pub fact_small : (z : Layout) (t f x : ℕ) → IsLayout z → t ≤ z.horizon → f < z.facts → x ≡ fact_at z t f → x ≤ 2147483647
fact_small z t f x is le lt e = let w = time_within z t is le in omega (arith, w, lt, e)
