use Rattle.std.proofs.Common.{◌≡◌, take}
use Rattle.gt_core.specs.Literal.{holds, is_in}
use Rattle.gt_core.specs.Task.{initial_state}
use Rattle.never_defs.specs.Sets.{weight_of}
use Rattle.never_check.proofs.weights.compared.Given as goal

abbrev pub invariant-loop-weight : goal.invariant-loop-weight
invariant-loop-weight l = record {
  first : l.first ≡ weight_of (holds (initial_state l.task)) (take l.weight-index l.weights);
  reached : l.reached ≡ weight_of (is_in l.trail.literals) (take l.weight-index l.weights);
}
