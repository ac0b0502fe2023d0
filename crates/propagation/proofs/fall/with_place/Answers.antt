use Rattle.std.proofs.Common.{arith}
use Rattle.propagation.proofs.Falls.{place_first, place_second, place_neither}
use Rattle.propagation.proofs.fall.with_place.Goals as goal

pub returns-then-until-two : goal.returns-then-until-two
returns-then-until-two c trail clause v i q = place_first trail clause v c.args.place c.args.until c.args.two i q (omega (arith, c.if-until-two.true))

pub returns-then-until-two-2 : goal.returns-then-until-two-2
returns-then-until-two-2 c trail clause v i q =
    place_second trail clause v c.args.place c.args.until c.args.two i q (omega (arith, c.if-until-two.false)) (omega (arith, c.if-until-two-2.true))

pub returns : goal.returns
returns c trail clause v i q =
    place_neither trail clause v c.args.place c.args.until c.args.two i q (omega (arith, c.if-until-two.false)) (omega (arith, c.if-until-two-2.false))
