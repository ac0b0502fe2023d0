use Rattle.std.specs.Prelude.{ℕ, List}
use Rattle.std.specs.List.{flat_map}
pub use Rattle.clause_base.specs.Repeats.{moved_code}
use Rattle.gt_core.specs.Task.{Task}
use Rattle.formula_defs.specs.Variables.{layout_of}
use Rattle.formula_defs.specs.Formula.{step_clauses, pair_clause}
use Rattle.formula_defs.specs.Coded.{coded}

-- The clauses of each step are those of the one step of horizon 1 with other variables. There a step's own variables
-- come first, then those of the facts before and after it.

-- the clauses of the one step of horizon 1
abbrev pub one_step : Task → List (List ℕ × ℕ) → List (List ℕ)
one_step task places = coded (step_clauses (layout_of task places 1) task places 0)

-- the clauses of the known pairs where fact f has variable f
abbrev pub one_time : List (ℕ × ℕ) → List (List ℕ)
one_time pairs = coded (flat_map (pair_clause (λ f. f) pairs) pairs)
