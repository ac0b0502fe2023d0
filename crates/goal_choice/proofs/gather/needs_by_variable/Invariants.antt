use Rattle.std.proofs.Common.{◌≡◌, ◌<◌, length, map, take}
use Rattle.std.specs.List.{flat_map, AllByRecursion}
use Rattle.gt_core.specs.Task.{Action}
use Rattle.goal_choice.specs.own.Needs.{needs_in}
use Rattle.goal_choice.specs.own.Joined.{joined}
use Rattle.goal_choice.proofs.gather.needs_by_variable.Given as goal

abbrev pub invariant-loop-number : goal.invariant-loop-number
invariant-loop-number l = record {
  long : length l.actions.items ≡ length l.conditions;
  within : AllByRecursion (λ a. a < length l.acts) l.actions.items;
  needs : joined (map (λ (a : Action). a.precondition) l.acts) l.actions.items l.conditions ≡ flat_map needs_in (take l.number l.acts);
}
