use Rattle.std.proofs.lemmas.Bool.Decides.{nat_tests}
use Rattle.std.proofs.Common.{arith}
use Rattle.never_check.proofs.Placed.{stands_true, stands_past}
use Rattle.never_check.proofs.trail.stands.Goals as goal

pub returns-then-place-literals : goal.returns-then-place-literals
returns-then-place-literals c = stands_true c.args.places.now c.args.literals.now c.args.lit c.requires.placed c.if-place-literals.true

pub returns-else-place-literals : goal.returns-else-place-literals
returns-else-place-literals c =
    let none = stands_past c.args.places.now c.args.literals.now c.args.lit c.requires.placed c.if-place-literals.false in
    let past = c.if-place-literals.false in
    grind (arith, nat_tests, none)
