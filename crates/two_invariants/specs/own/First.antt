use Rattle.std.specs.Prelude.{ℕ, ◌*◌, ◌==◌, Bool, not, ◌&&◌, ◌||◌, nat_lt}
use Rattle.gt_core.specs.Literal.{opposite, holds}

-- two literals of so many facts that are not opposite, or one given twice, one of which holds in a state
abbrev pub is_first : ℕ → (ℕ → Bool) → ℕ → ℕ → Bool
is_first facts s l m = nat_lt l (2 * facts) && (nat_lt m (2 * facts) && (not (opposite l == m) && (holds s l || holds s m)))
