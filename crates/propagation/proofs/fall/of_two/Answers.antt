use Rattle.std.proofs.Common.{arith, ◌≡◌}
use Rattle.propagation.proofs.Falls.{first_two}
use Rattle.propagation.proofs.fall.of_two.Goals as goal

pub returns-then-one-other : goal.returns-then-one-other
returns-then-one-other c trail clause v p q =
    first_two trail clause v 1 0 c.args.other c.args.one (omega arith) (omega arith) (λ (e : 0 ≡ 1). absurd (omega (arith, e))) q p (omega (arith, c.if-one-other.true))

pub returns-else-one-other : goal.returns-else-one-other
returns-else-one-other c trail clause v p q =
    first_two trail clause v 0 1 c.args.one c.args.other (omega arith) (omega arith) (λ (e : 1 ≡ 0). absurd (omega (arith, e))) p q (omega (arith, c.if-one-other.false))
