-- What a formula of clauses is made from.
use Rattle.std.specs.Prelude.{◌≡◌, ◌<◌, ◌≤◌, ℕ, List}
use Rattle.clause_base.specs.Formula.{Cnf}
use Rattle.gt_core.specs.Task.{Task}
use Rattle.formula_defs.specs.Coded.{formula_of}
use Rattle.step_laws.specs.Form.{OrderedTask, IsOrderedTask, places_of}
use Rattle.step_encoding.specs.Limits.{most_literals}
use Rattle.plan_endings.specs.declared.ending.Ending.{Ending}
use Rattle.plan_endings.specs.declared.ending.Ending.TheVariants.{TooLarge}
use Rattle.never_form.specs.Formed.{never_size}

-- A formula is that of horizon 1 of a task with what is known of it, and there are not too many literals.
pub record IsOne (task : Task) (one : Cnf) (clauses : List (List ℕ)) : Type 0 where
  pub form : OrderedTask
  pub ordered : IsOrderedTask form
  pub of_task : form.task ≡ task
  pub formula : one ≡ formula_of task form.known.clauses (places_of form) 1
  pub small : never_size one task clauses ≤ most_literals

-- the ending tells of so many literals, which are too many for this formula of horizon 1
abbrev pub TellsTooMany : Cnf → Task → List (List ℕ) → Ending → Type 0
TellsTooMany one task clauses end = (count : ℕ) × (end ≡ TooLarge 1 count) × (most_literals < count) × (count ≤ never_size one task clauses)
