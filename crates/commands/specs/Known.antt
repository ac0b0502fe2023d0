-- What is known of a ground task, and the formulas of its horizons.
use Rattle.std.specs.Prelude.{◌≡◌, ◌<◌, ℕ, List, Option}
use Rattle.clause_base.specs.Choice.{Known}
use Rattle.gt_core.specs.Task.{Task}
use Rattle.formula_defs.specs.Variables.{layout_of, chain_places}
use Rattle.step_laws.specs.Form.{OrderedTask}
use Rattle.step_encoding.specs.Limits.{planner_literals}
use Rattle.step_encoding.specs.Numbers.{literals_of}
use Rattle.horizon_run.specs.Run.{choice_of}
pub use Rattle.step_plans.specs.Known.{IsOrdered, form_of, formula_at}

-- where the chains of the formulas go
module _ (places : Task → List (List ℕ) → List (List ℕ × ℕ)) where
  -- the choice of a horizon's solver
  abbrev pub choice_at : OrderedTask → ℕ → Known → Option ℕ
  choice_at form h = choice_of form.task (layout_of form.task (places form.task form.components) h)

-- the formula of a horizon of a task has too many literals, so many
pub record HasTooMany (task : Task) (horizon : ℕ) (count : ℕ) : Type 0 where
  pub clauses : List (ℕ × ℕ)
  pub components : List (List ℕ)
  pub ordered : IsOrdered task clauses components
  pub over : planner_literals < count
  pub count_is : count ≡ literals_of (formula_at chain_places (form_of task clauses components) horizon)
