use Rattle.std.specs.Prelude.{◌≡◌, ℕ, ◌+◌, ◌*◌, ◌≤◌, List, length}
use Rattle.gt_core.specs.Task.{Task}
use Rattle.gt_core.specs.Lawful.{conditional_in}
use Rattle.formula_defs.specs.Coded.{literals_in}
use Rattle.formula_defs.specs.Shift.{one_step, one_time}
use Rattle.step_chains.specs.Chains.{LinkedChains, AreChains}
use Rattle.step_laws.specs.Form.{OrderedTask, IsOrderedTask}
use Rattle.step_encoding.specs.Limits.{most_literals}

-- what a form whose chains go to these places keeps beside what it stands on: its chains, the number of conditional effects,
-- how many literals one step and one time have, and the clauses of one step and of one time, each where the smallest formula
-- that has them is not too large
pub record AreKept (places : Task → List (List ℕ) → List (List ℕ × ℕ)) (form : OrderedTask) (effects : ℕ) (linked : LinkedChains) (per_step per_time : ℕ) (step known : List (List ℕ)) : Type 0 where
  pub ordered : IsOrderedTask form
  pub conditional : effects ≡ conditional_in form.task.actions
  pub chains : AreChains form.task (places form.task form.components) linked
  pub step_size : per_step ≡ literals_in (one_step form.task (places form.task form.components))
  pub known_size : per_time ≡ literals_in (one_time form.known.clauses)
  pub step_few : per_step ≤ 17592186044416
  pub known_few : per_time ≤ 8589934592
  pub step_is : form.task.facts + length form.task.goal + per_step + 2 * per_time ≤ most_literals → step ≡ one_step form.task (places form.task form.components)
  pub known_is : form.task.facts + length form.task.goal + per_time ≤ most_literals → known ≡ one_time form.known.clauses
