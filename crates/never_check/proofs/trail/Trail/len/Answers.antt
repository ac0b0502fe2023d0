use Rattle.std.proofs.Common.{ap, arith}
use Rattle.never_check.specs.Trail.{Reached}
use Rattle.never_check.proofs.Placed.{placed_few}
use Rattle.never_check.proofs.trail.Trail.len.Goals as goal

pub returns-clause-few : goal.returns-clause-few
returns-clause-few c =
    let few = placed_few c.self.inside.places.items c.self.inside.literals.items c.self.invariant.0 in
    let size = ap (λ (r : Reached). r.facts) c.self.view_is in
    let full = c.self.invariant.1 in
    let is = c.len.ensures in
    omega (arith, few, size, full, is)
