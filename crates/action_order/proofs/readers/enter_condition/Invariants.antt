use Rattle.std.proofs.Common.{take}
use Rattle.action_order.specs.own.Readers.{IsEntered, has_fact}
use Rattle.action_order.proofs.readers.enter_condition.Given as goal

abbrev pub invariant-loop-lit : goal.invariant-loop-lit
invariant-loop-lit l = IsEntered (has_fact (take l.lit-index l.condition)) l.b l.initial.rows.items l.rows.items
