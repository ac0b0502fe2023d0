-- The formula whose refutation shows that clauses leave no plan, for a task with what is known of it.
use Rattle.std.specs.Prelude.{◌≡◌, ℕ, ◌+◌, ◌*◌, ◌<◌, ◌≤◌, List, [], ◌∷◌, length}
use Rattle.clause_base.specs.Formula.{Cnf}
use Rattle.gt_core.specs.Task.{Task}
use Rattle.formula_defs.specs.Variables.{chain_places}
use Rattle.step_laws.specs.Never.{never_formula}
use Rattle.step_encoding.specs.Limits.{most_literals}
use Rattle.step_encoding.specs.Numbers.{literals_of}
use Rattle.step_plans.specs.Known.{IsOrdered, form_of, formula_at}
use Rattle.plan_endings.specs.declared.ending.Ending.{Ending}
use Rattle.plan_endings.specs.declared.ending.Ending.TheVariants.{TooLarge}

-- it is that formula, by the invariants of the task and the published order of its actions
pub record IsNeverFormula (task : Task) (clauses : List (List ℕ)) (formula : Cnf) : Type 0 where
  pub known : List (ℕ × ℕ)
  pub components : List (List ℕ)
  pub ordered : IsOrdered task known components
  pub is : formula ≡ never_formula task known (chain_places task components) clauses

-- How many literals clauses need: each literal stands at time 0, and after the step with the variable of its cube; that variable is
-- one of the clause which says that some cube holds.
abbrev pub needed : List (List ℕ) → ℕ
needed [] = 0
needed (c ∷ cs) = 3 * length c + 1 + needed cs

-- the literals of the formula of horizon 1, of which a part is taken, those of the goal as a cube, and those that the clauses need
abbrev pub never_size : Cnf → Task → List (List ℕ) → ℕ
never_size one task clauses = literals_of one + 2 * length task.goal + 1 + needed clauses

-- so many literals are too many, and there are no fewer
pub record IsTooLarge (task : Task) (clauses : List (List ℕ)) (count : ℕ) : Type 0 where
  pub known : List (ℕ × ℕ)
  pub components : List (List ℕ)
  pub ordered : IsOrdered task known components
  pub over : most_literals < count
  pub some : count ≤ never_size (formula_at chain_places (form_of task known components) 1) task clauses

-- the ending tells that they are too many
abbrev pub TellsTooLarge : List (List ℕ) → Task → Ending → Type 0
TellsTooLarge clauses task end = (count : ℕ) × (end ≡ TooLarge 1 count) × IsTooLarge task clauses count
