use Rattle.std.proofs.Common.{arith, ◌∙◌}
use Rattle.step_formula.proofs.KnownSize.{known_size_next}
use Rattle.step_formula.proofs.known_size.known_size.Goals as goal

pub loop-i-preserved : goal.loop-i-preserved
loop-i-preserved c = (
  c.loop-i.invariant.0 ∙ known_size_next c.args.pairs.now.facts c.args.pairs.now.clauses c.loop-i.i c.at-l.result c.at-l.result c.loop-i.size c.pair_size-size.result c.count-i-end.ensures.lawful.lawful c.at-l.ensures c.pair_size-size.ensures.size,
  let a = c.loop-i.invariant.1 in let b = c.pair_size-size.ensures.few in omega (arith, a, b),
)
