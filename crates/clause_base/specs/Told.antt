-- What literals say that are told one after another.
use Rattle.std.specs.Prelude.{ℕ, zero, suc, ◌+◌, ◌/◌, ◌%◌, ◌==◌, List, [], ◌∷◌, Bool, Option, Some, None, if◌then◌else◌}
use Rattle.clause_base.specs.Choice.{Known}

-- what literals that were told, oldest first, say of a variable: what the oldest one of it says
abbrev pub told_value : List ℕ → ℕ → Option Bool
told_value [] v = None
told_value (l ∷ ls) v = if l / 2 == v then Some (l % 2 == 0) else told_value ls v

-- what they say of n variables from v on
abbrev pub told_from : List ℕ → ℕ → ℕ → Known
told_from ls v zero = []
told_from ls v (suc n) = told_value ls v ∷ told_from ls (v + 1) n

-- what they say of each of n variables
abbrev pub told_values : ℕ → List ℕ → Known
told_values n ls = told_from ls 0 n
