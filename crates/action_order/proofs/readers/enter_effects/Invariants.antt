use Rattle.std.proofs.Common.{take}
use Rattle.gt_core.specs.Interference.{action_asks}
use Rattle.action_order.specs.own.Readers.{IsEntered, of_effects}
use Rattle.action_order.proofs.readers.enter_effects.Given as goal

abbrev pub invariant-loop-effect : goal.invariant-loop-effect
invariant-loop-effect l = IsEntered (action_asks (of_effects (take l.effect-index l.effects))) l.b l.initial.rows.items l.rows.items
