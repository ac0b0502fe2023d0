use Rattle.std.proofs.Common.{◌≡◌, ℕ, ◌<◌, length}
use Rattle.action_order.specs.own.Walk.{mark_of, IsWalkOf}
use Rattle.action_order.specs.declared.walk.Mark.TheVariants.{Unseen}
use Rattle.action_order.proofs.walk.find_components.Given as goal

abbrev pub invariant-loop-root : goal.invariant-loop-root
invariant-loop-root l = record {
  walk : IsWalkOf l.targets l.walk;
  start : length l.walk.stack.items ≡ 0;
  seen : (v : ℕ) → v < l.root → mark_of l.walk.marks.items v ≡ Unseen → ⊥;
}
