use Rattle.std.proofs.Common.{arith, ◌≡◌, length}
use Rattle.never_check.proofs.Beginning.{uses_are}
use Rattle.never_check.proofs.uses.uses_of.Goals as goal

pub returns : goal.returns
returns c =
    let ends = c.loop-number-test.false in
    let upto = c.loop-number.auto.number-end in
    let long = c.len-number-end.ensures in
    let most : c.loop-number.number ≡ length c.args.clauses.now = omega (arith, ends, upto, long) in
    uses_are c.args.facts c.loop-number.number c.args.clauses.now c.loop-number.uses.items most c.loop-number.invariant.long c.loop-number.invariant.has
