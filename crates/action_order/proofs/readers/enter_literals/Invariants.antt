use Rattle.std.proofs.Common.{take}
use Rattle.gt_core.specs.Literal.{is_in}
use Rattle.action_order.specs.own.Readers.{IsEntered}
use Rattle.action_order.proofs.readers.enter_literals.Given as goal

abbrev pub invariant-loop-lit : goal.invariant-loop-lit
invariant-loop-lit l = IsEntered (is_in (take l.lit-index l.lits)) l.b l.initial.rows.items l.rows.items
