-- take_least
use Rattle.std.proofs.Common.{ℕ, Some, subst}
use Rattle.propagation.specs.own.Asks.{IsWithoutOne}
use Rattle.propagation.proofs.AsksKept.{without_none, without_least}
use Rattle.propagation.proofs.pending.Pending.take_least.Goals as goal

pub returns-in_default : goal.returns-in_default
returns-in_default c = without_none _ _

pub returns-then-least-number : goal.returns-then-least-number
returns-then-least-number c =
    let gone = without_least c.in-Some.least c.args.self.now c.remove_least.new.self (c.remove_least.ensures.has c.in-Some.least c.in-Some.ensures) c.remove_least.ensures.room in
    subst (λ (n : ℕ). IsWithoutOne (Some n) c.args.self.now (record c.args.self.now { numbers = c.remove_least.new.self })) c.if-least-number.true gone

pub returns-else-least-number : goal.returns-else-least-number
returns-else-least-number c = without_none _ _
