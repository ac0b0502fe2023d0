use Rattle.std.proofs.Common.{arith}
use Rattle.never_check.proofs.Placed.{placed_few, pushed}
use Rattle.never_check.proofs.trail.Trail.push.Goals as goal

pub overflow_cast-place : goal.overflow_cast-place
overflow_cast-place c =
    let few = placed_few c.self.inside.places.items c.self.inside.literals.items c.self.invariant.0 in
    let most = c.self.invariant.2 in
    let full = c.self.invariant.1 in
    let is = c.len-place.ensures in
    omega (arith, few, most, full, is)

pub invariant_of-self-2 : goal.invariant_of-self-2
invariant_of-self-2 c = pushed c.self.inside.places.items c.self.inside.literals.items c.push.new.self.items c.self.inside.facts c.args.lit c.len-place.result c.args.self.now c.self.view_is c.requires.lit c.requires.new (omega (arith, c.len-place.ensures)) c.self.invariant c.in_ok-push.ensures.items
