-- Actions that were counted while they were made.
use Rattle.std.specs.Prelude.{◌≡◌, ◌≤◌, List}
use Rattle.gt_core.specs.Lawful.{conditional_in}
use Rattle.gt_core.specs.Task.{Action}
use Rattle.gt_core.specs.Limits.{most_conditional}
use Rattle.grounding_defs.specs.Tuples.{saturated}
use Rattle.grounder.specs.declared.conditional.Counted.{Counted}

-- how many of their effects have a condition, and where these are within the limit the actions
pub record HasCounted (acts : List Action) (c : Counted) : Type 0 where
  pub count : c.conditional ≡ saturated (conditional_in acts)
  pub acts_are : c.conditional ≤ most_conditional → c.acts.items ≡ acts
