use Rattle.std.proofs.Common.{arith, ◌∙◌}
use Rattle.grounder.proofs.Saturated.{type_more}
use Rattle.grounder.proofs.tuples.product_of.Goals as goal

pub loop-kind-preserved : goal.loop-kind-preserved
loop-kind-preserved c = record {
  product = c.loop-kind.invariant.product ∙ type_more c.args.p.now c.args.kinds.now c.loop-kind.kind-index c.loop-kind.product c.fitting_count.result c.saturating_mul-product.result c.loop-kind-test.true c.fitting_count.ensures c.saturating_mul-product.ensures;
  fits = omega arith;
}
