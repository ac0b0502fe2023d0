use Rattle.std.proofs.Common.{arith}
use Rattle.grounder.proofs.Placed.{placed}
use Rattle.grounder.proofs.simplify.number_of.Goals as goal

pub fact_literal-requires : goal.fact_literal-requires
fact_literal-requires c =
    let at = placed c.args.known.now.facts _ c.place_in.result c.in-Some.place c.place_in.ensures c.in-Some.is in
    omega (arith, at.below, c.requires.few)
