use Rattle.std.proofs.Common.{◌≡◌, ◌≤◌, length}
use Rattle.gt_core.specs.Laws.{IsRunToGoal}
use Rattle.state_search.proofs.shorten.shorten.Given as goal

-- the best so far runs to the goal
abbrev pub invariant-loop-turn : goal.invariant-loop-turn
invariant-loop-turn l = record {
  runs : IsRunToGoal l.task l.best;
  fewer : length l.best ≤ length l.fn.actions;
  before : length l.before.items ≡ l.task.facts;
  after : length l.after.items ≡ l.task.facts;
}
