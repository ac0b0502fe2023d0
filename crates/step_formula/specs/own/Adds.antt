use Rattle.std.specs.Prelude.{◌≡◌, ℕ, ◌+◌, ◌%◌, ◌≤◌, ◌==◌, List, ◌&&◌, if◌then◌else◌}
use Rattle.std.specs.List.{AllByRecursion}
use Rattle.gt_core.specs.Task.{Effect}
use Rattle.step_formula.specs.own.Sizes.{adds_of, adds_surely}
use Rattle.step_formula.specs.declared.counted_adds.Adds.{Adds}

-- what is counted of the effects before one: of a fact whose literals are not passed yet, all adds
pub record IsCount (adds : Adds) (before : List Effect) : Type 0 where
  pub count : (l : ℕ) → l % 2 ≡ 0 → AllByRecursion (λ d. d.literal ≤ l + 1) before → adds_of before l ≡ (if adds.lit == l then adds.count else 0)
  pub sure : (l : ℕ) → l % 2 ≡ 0 → AllByRecursion (λ d. d.literal ≤ l + 1) before → adds_surely before l ≡ ((adds.lit == l) && adds.sure)
