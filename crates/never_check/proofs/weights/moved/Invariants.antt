use Rattle.std.proofs.Common.{◌≡◌, take}
use Rattle.gt_core.specs.Literal.{is_in}
use Rattle.never_defs.specs.Sets.{weight_of}
use Rattle.never_defs.specs.After.{comes_perhaps, goes_surely}
use Rattle.never_check.proofs.weights.moved.Given as goal

abbrev pub invariant-loop-weight : goal.invariant-loop-weight
invariant-loop-weight l = record {
  coming : l.coming ≡ weight_of (comes_perhaps (is_in l.trail.literals) l.act) (take l.weight-index l.weights);
  going : l.going ≡ weight_of (goes_surely (is_in l.trail.literals) l.act) (take l.weight-index l.weights);
}
