use Rattle.std.proofs.Common.{◌≡◌, ◌<◌, ℕ}
use Rattle.gt_core.specs.Task.{action}
use Rattle.never_defs.specs.Weights.{PassesWeights}
use Rattle.never_check.proofs.weights.first_raising.Given as goal

abbrev pub invariant-loop-number : goal.invariant-loop-number
invariant-loop-number l = record {
  kept : l.trail ≡ l.initial.trail;
  all : (a : ℕ) → a < l.number → PassesWeights l.rules.known.now.clauses l.weights (action l.task a);
}
