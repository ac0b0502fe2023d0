use Rattle.std.proofs.Common.{arith, ◌*◌, ◌∙◌, ℕ, List, length, ap, min}
use Rattle.grounder.proofs.Saturated.{domain_more}
use Rattle.grounder.proofs.bindings.size_of.Goals as goal

pub loop-domain-preserved : goal.loop-domain-preserved
loop-domain-preserved c = (
  c.loop-domain.invariant.0 ∙ domain_more c.args.domains.now c.loop-domain.domain-index c.loop-domain.count c.domain-item.result c.saturating_mul-count.result c.loop-domain-test.true c.domain-item.is
      (c.saturating_mul-count.ensures ∙ ap (λ (d : List ℕ). min (c.loop-domain.count * length d) 18446744073709551615) c.as_slice.ensures),
  omega arith,
)
