-- The adds beside a delete of one action, whose effects are sorted by literal, so that the adds of a fact stand just
-- before its deletes.
use Rattle.std.specs.Prelude.{◌≡◌, ℕ, ◌+◌, ◌%◌, ◌≤◌, ◌==◌, List, [], false, if◌then◌else◌}
use Rattle.std.specs.List.{AllByRecursion}
use Rattle.gt_core.specs.Literal.{opposite}
use Rattle.gt_core.specs.Task.{Effect}
use Rattle.formula_defs.specs.Layout.{Layout}
use Rattle.formula_defs.specs.Variables.{Row}
use Rattle.step_formula.specs.Rows.{rows_of, made_by}

-- what is noted of the effects before one: of a fact whose literals are not passed yet, the variables of all adds
pub record IsAdders (z : Layout) (a first : ℕ) (before : List Effect) (lit : ℕ) (vars : List ℕ) : Type 0 where
  pub made : (l : ℕ) → l % 2 ≡ 0 → AllByRecursion (λ d. d.literal ≤ l + 1) before → made_by z a l (rows_of a first before) ≡ (if lit == l then vars else [])

-- the adds beside a delete are those that are noted
abbrev pub AreOverruling : Layout → ℕ → List Row → ℕ → List ℕ → Effect → Type 0
AreOverruling z a all lit vars e = (e.literal % 2 == 0) ≡ false → made_by z a (opposite e.literal) all ≡ (if lit == opposite e.literal then vars else [])
