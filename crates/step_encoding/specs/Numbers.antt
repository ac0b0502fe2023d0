use Rattle.std.specs.Prelude.{◌≡◌, ℕ, length}
use Rattle.gt_core.specs.Task.{Task}
use Rattle.gt_core.specs.Lawful.{conditional_in}
use Rattle.formula_defs.specs.Layout.{Layout, variables}
use Rattle.clause_base.specs.Formula.{Cnf}
use Rattle.formula_defs.specs.Coded.{literals_in}

-- how many literals a formula has
abbrev pub literals_of : Cnf → ℕ
literals_of formula = literals_in formula.clauses

-- a layout has a horizon and a task's numbers, and a formula has the horizon as its name and the layout's variables
pub record HasNumbersOf (task : Task) (n : ℕ) (layout : Layout) (formula : Cnf) : Type 0 where
  pub horizon : layout.horizon ≡ n
  pub actions : layout.actions ≡ length task.actions
  pub conditional : layout.conditional ≡ conditional_in task.actions
  pub facts : layout.facts ≡ task.facts
  pub name : formula.name ≡ n
  pub variables : formula.variables ≡ variables layout
