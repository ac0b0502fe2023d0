use Rattle.std.proofs.Common.{◌≡◌, ℕ, take}
use Rattle.gt_core.specs.Literal.{is_in}
use Rattle.action_order.specs.own.Sure.{is_sure_of}
use Rattle.action_order.proofs.sure.sure_literals.Given as goal

abbrev pub invariant-loop-effect : goal.invariant-loop-effect
invariant-loop-effect l = (k : ℕ) → is_in l.sure.items k ≡ is_sure_of (take l.effect-index l.effects) l.effects k
