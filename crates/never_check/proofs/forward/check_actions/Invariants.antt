use Rattle.std.proofs.Common.{◌≡◌, ◌<◌, ℕ}
use Rattle.gt_core.specs.Task.{action}
use Rattle.never_check.specs.Verdicts.{ArePassed}
use Rattle.never_check.proofs.forward.check_actions.Given as goal

abbrev pub invariant-loop-number : goal.invariant-loop-number
invariant-loop-number l = record {
  kept : l.trail ≡ l.initial.trail;
  all : (a : ℕ) → a < l.number → ArePassed l.rules (action l.task a);
}
