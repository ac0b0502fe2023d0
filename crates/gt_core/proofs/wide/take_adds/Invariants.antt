use Rattle.std.proofs.Common.{◌≡◌, ℕ, ◌*◌, ◌<◌, ◌||◌, drop, length}
use Rattle.std.specs.List.{list_any}
use Rattle.gt_core.specs.Literal.{state_of}
use Rattle.gt_core.specs.Active.{is_active}
use Rattle.gt_core.proofs.wide.take_adds.Given as goal

abbrev pub invariant-loop-effect : goal.invariant-loop-effect
invariant-loop-effect l =
    (f : ℕ) → f < length l.into → (list_any (is_active (state_of l.state) (2 * f)) l.effects || state_of l.initial.into f)
    ≡ (list_any (is_active (state_of l.state) (2 * f)) (drop l.effect-index l.effects) || state_of l.into f)
