use Rattle.std.proofs.Common.{refl}
use Rattle.pd_plan.specs.Fault as plan
use Rattle.commands.proofs.answer.read_calls.Goals as goal

pub returns-in-Err-Syntax-clause-stops : goal.returns-in-Err-Syntax-clause-stops
returns-in-Err-Syntax-clause-stops c = rw c.refuse.ensures (plan.syntax c.in-Err-Syntax.at, rw c.in-Err-Syntax.field-0-is at c.in-Err-Syntax.ensures.plan, refl)

pub returns-in-Err-Unknown-clause-stops : goal.returns-in-Err-Unknown-clause-stops
returns-in-Err-Unknown-clause-stops c = rw c.refuse-in-Err-Unknown.ensures (plan.unknown c.in-Err-Unknown.at, rw c.in-Err-Unknown.field-0-is at c.in-Err-Unknown.ensures.plan, refl)

pub returns-in-Err-Arity-clause-stops : goal.returns-in-Err-Arity-clause-stops
returns-in-Err-Arity-clause-stops c = rw c.refuse-in-Err-Arity.ensures (plan.arity c.in-Err-Arity.at, rw c.in-Err-Arity.field-0-is at c.in-Err-Arity.ensures.plan, refl)

pub returns-in-Err-Mistyped-clause-stops : goal.returns-in-Err-Mistyped-clause-stops
returns-in-Err-Mistyped-clause-stops c = rw c.refuse-in-Err-Mistyped.ensures (plan.mistyped c.in-Err-Mistyped.at, rw c.in-Err-Mistyped.field-0-is at c.in-Err-Mistyped.ensures.plan, refl)
