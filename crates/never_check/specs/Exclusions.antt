-- By what a goal is excluded without any certificate.
use Rattle.std.specs.Prelude.{◌≡◌, ℕ, ◌<◌, List, [], ◌∷◌, ◌++◌, true, length, take, slice_index}
use Rattle.gt_core.specs.Literal.{is_in}
use Rattle.gt_core.specs.Task.{Task}
use Rattle.never_defs.specs.Propagation.{IsRefuted}
use Rattle.never_defs.specs.Forward.{GoalPassesForward}
use Rattle.never_check.specs.Verdicts.{AreRefuted, HasLeast}
use Rattle.never_check.specs.declared.rules.Rules.{Rules}
use Rattle.never_check.specs.declared.excluded.Exclusion.{Exclusion}
use Rattle.never_check.specs.declared.excluded.Exclusion.TheVariants as by

-- the literals up to a place are refuted, and those before it are not
abbrev pub IsFirstRefuted : Rules → List ℕ → ℕ → Type 0
IsFirstRefuted rules ls place = (place < length ls) × HasLeast rules (take place ls) × AreRefuted rules (take place ls ++ slice_index ls place ∷ [])

-- what is told of a goal: it is open, hopeless, or excluded by one or two of its literals
abbrev pub IsExclusion : Task → List (ℕ × ℕ) → Exclusion → Type 0
IsExclusion task known by.Open = GoalPassesForward task known [] → ⊥
IsExclusion task known by.Hopeless = (task.hopeless ≡ true) × GoalPassesForward task known []
IsExclusion task known (by.One l) = (is_in task.goal l ≡ true) × IsRefuted known [] (is_in (l ∷ [])) × GoalPassesForward task known []
IsExclusion task known (by.Two l m) = (is_in task.goal l ≡ true) × (is_in task.goal m ≡ true) × IsRefuted known [] (is_in (l ∷ m ∷ [])) × GoalPassesForward task known []
