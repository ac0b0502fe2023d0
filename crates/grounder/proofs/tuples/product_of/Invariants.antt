use Rattle.std.proofs.Common.{◌≡◌, ◌*◌, ◌-◌, ◌^◌, ◌≤◌, drop}
use Rattle.grounding_defs.specs.Tuples.{product_of, saturated}
use Rattle.grounder.proofs.tuples.product_of.Given as goal

abbrev pub invariant-loop-kind : goal.invariant-loop-kind
invariant-loop-kind l = record {
  product : saturated (product_of l.p l.kinds) ≡ saturated (l.product * product_of l.p (drop l.kind-index l.kinds));
  fits : l.product ≤ 2 ^ 64 - 1;
}
