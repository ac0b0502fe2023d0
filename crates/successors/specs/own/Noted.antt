-- Facts that are gathered from effects.
use Rattle.std.specs.Prelude.{ℕ, ◌/◌, ◌%◌, ◌==◌, List, [], ◌∷◌, ◌++◌, if◌then◌else◌}
use Rattle.gt_core.specs.Task.{Effect}

-- with the fact of an effect, where its literal leaves so much when divided by two
abbrev pub noted : ℕ → Effect → List ℕ → List ℕ
noted rest e fs = if e.literal % 2 == rest then fs ++ e.literal / 2 ∷ [] else fs
