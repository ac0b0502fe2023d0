use Rattle.std.proofs.Common.{◌≡◌, ◌<◌, ℕ}
use Rattle.gt_core.specs.Task.{action}
use Rattle.never_check.specs.BackwardVerdicts.{ArePassedBackward}
use Rattle.never_check.proofs.backward.check_actions.Given as goal

abbrev pub invariant-loop-number : goal.invariant-loop-number
invariant-loop-number l = record {
  before : l.before ≡ l.initial.before;
  after : l.after ≡ l.initial.after;
  all : (a : ℕ) → a < l.number → ArePassedBackward l.sides.whole.now (action l.task a);
}
