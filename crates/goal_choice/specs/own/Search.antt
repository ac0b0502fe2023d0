-- Of the variables of supporters, the least that has a value in a step.
use Rattle.std.specs.Prelude.{◌≡◌, ℕ, ◌+◌, List, [], ◌∷◌, Bool, true, false, Option, Some, None, if◌then◌else◌, nat_le, length, slice_index_or}
use Rattle.std.specs.List.Sorted.{IsNonDecreasing}
use Rattle.clause_base.specs.Choice.{Known}
use Rattle.goal_choice.specs.Walk.{has_value}

-- the lesser of two variables
abbrev pub lesser_variable : ℕ → Option ℕ → ℕ
lesser_variable v None = v
lesser_variable v (Some w) = if nat_le v w then v else w

-- of variables of the first step the least that has a value in the step that begins at a variable
abbrev pub least_variable : Known → Option Bool → ℕ → List ℕ → Option ℕ
least_variable values value start [] = None
least_variable values value start (v ∷ rest) =
    if has_value values (start + v) value then Some (lesser_variable v (least_variable values value start rest)) else least_variable values value start rest

-- a list that is marked has no number that is greater than a later one
pub record AreMarked (marks : List Bool) (lists : List (List ℕ)) : Type 0 where
  pub long : length marks ≡ length lists
  pub each : (l : ℕ) → slice_index_or marks l false ≡ true → IsNonDecreasing (slice_index_or lists l [])
