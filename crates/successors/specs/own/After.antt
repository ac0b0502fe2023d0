-- The state after effects.
use Rattle.std.specs.Prelude.{ℕ, ◌+◌, ◌*◌, List, Bool, not, ◌&&◌, ◌||◌}
use Rattle.std.specs.List.{list_any}
use Rattle.gt_core.specs.Task.{Effect}
use Rattle.gt_core.specs.Active.{is_active}

-- a fact that effects add holds after them, and each other one that held and that they do not delete
abbrev pub after_effects : (ℕ → Bool) → List Effect → ℕ → Bool
after_effects s es f = list_any (is_active s (2 * f)) es || (s f && not (list_any (is_active s (2 * f + 1)) es))
