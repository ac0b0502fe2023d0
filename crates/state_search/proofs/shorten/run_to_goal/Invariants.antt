use Rattle.std.proofs.Common.{◌≡◌, length, drop}
use Rattle.gt_core.specs.Literal.{state_of}
use Rattle.gt_core.specs.Laws.{IsRunToGoal}
use Rattle.state_search.specs.own.Path.{RunsToGoal}
use Rattle.state_search.proofs.shorten.run_to_goal.Given as goal

-- where the actions that are left run to the goal from here, all do from the initial state
abbrev pub invariant-loop-act : goal.invariant-loop-act
invariant-loop-act l = record {
  left : RunsToGoal l.task (state_of l.before) (drop l.act-index l.actions) → IsRunToGoal l.task l.actions;
  before : length l.before ≡ l.task.facts;
  after : length l.after ≡ l.task.facts;
}
