-- What is known of a ground task, and the formulas of its horizons.
use Rattle.std.specs.Prelude.{ℕ, List}
use Rattle.clause_base.specs.Formula.{Cnf}
use Rattle.gt_core.specs.Task.{Task}
use Rattle.gt_core.specs.Published.{IsPublished}
use Rattle.two_invariants.specs.Closed.{AreInvariants}
use Rattle.formula_defs.specs.Coded.{formula_of}
use Rattle.step_laws.specs.Form.{OrderedTask}

-- the clauses that are known of a task, which are its invariants, and the published order of its actions under them, as its components
pub record IsOrdered (task : Task) (clauses : List (ℕ × ℕ)) (components : List (List ℕ)) : Type 0 where
  pub known : AreInvariants task clauses
  pub published : IsPublished task clauses components

-- a task with what is known of it and its order
abbrev pub form_of : Task → List (ℕ × ℕ) → List (List ℕ) → OrderedTask
form_of task clauses components = record { task = task; known = record { facts = task.facts; clauses = clauses }; components = components }

-- where the chains of the formulas go
module _ (places : Task → List (List ℕ) → List (List ℕ × ℕ)) where
  -- the formula of a horizon
  abbrev pub formula_at : OrderedTask → ℕ → Cnf
  formula_at form h = formula_of form.task form.known.clauses (places form.task form.components) h
