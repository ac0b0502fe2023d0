use Rattle.action_order.specs.own.Quotient.{IsWithoutOwn}
use Rattle.action_order.proofs.quotient.leave_own_out.Given as goal

abbrev pub invariant-loop-b : goal.invariant-loop-b
invariant-loop-b l = IsWithoutOwn l.numbers l.b l.initial.rows.items l.rows.items
