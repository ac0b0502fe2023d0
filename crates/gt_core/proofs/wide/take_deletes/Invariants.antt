use Rattle.std.proofs.Common.{◌≡◌, ℕ, ◌+◌, ◌*◌, not, ◌&&◌, drop}
use Rattle.std.specs.List.{list_any}
use Rattle.gt_core.specs.Literal.{state_of}
use Rattle.gt_core.specs.Active.{is_active}
use Rattle.gt_core.proofs.wide.take_deletes.Given as goal

abbrev pub invariant-loop-effect : goal.invariant-loop-effect
invariant-loop-effect l =
    (f : ℕ) → (state_of l.initial.into f && not (list_any (is_active (state_of l.state) (2 * f + 1)) l.effects))
    ≡ (state_of l.into f && not (list_any (is_active (state_of l.state) (2 * f + 1)) (drop l.effect-index l.effects)))
