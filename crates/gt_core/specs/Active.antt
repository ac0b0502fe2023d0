use Rattle.std.specs.Prelude.{◌==◌, ℕ, ◌*◌, ◌/◌, ◌<◌, Bool, ◌&&◌}
use Rattle.std.specs.List.{AllByRecursion}
use Rattle.gt_core.specs.Literal.{all_hold}
use Rattle.gt_core.specs.Task.{Effect}

-- an effect makes a literal true in a state
abbrev pub is_active : (ℕ → Bool) → ℕ → Effect → Bool
is_active s l e = (e.literal == l) && all_hold s e.condition

-- the literals of an effect are of so many facts
pub record EffectWithin (facts : ℕ) (e : Effect) : Type 0 where
  pub literal : e.literal < 2 * facts
  pub condition : AllByRecursion (λ l. l / 2 < facts) e.condition
