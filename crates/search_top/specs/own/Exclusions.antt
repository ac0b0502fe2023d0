-- By what the goal of a task is excluded, and the literals of which its text tells.
use Rattle.std.specs.Prelude.{◌<◌, ◌*◌, ℕ, List}
use Rattle.gt_core.specs.Task.{Task}
use Rattle.two_invariants.specs.Closed.{AreInvariants}
use Rattle.never_check.specs.Exclusions.{IsExclusion}
use Rattle.never_check.specs.declared.excluded.Exclusion.{Exclusion}
use Rattle.never_check.specs.declared.excluded.Exclusion.TheVariants as by

-- this excludes it under the invariants of the task
abbrev pub IsExcluded : Task → Exclusion → Type 0
IsExcluded task by = (known : List (ℕ × ℕ)) × AreInvariants task known × IsExclusion task known by

-- the fact literals are those of so many facts
abbrev pub HasLiterals : ℕ → Exclusion → Type 0
HasLiterals facts (by.One l) = l < 2 * facts
HasLiterals facts (by.Two l m) = (l < 2 * facts) × (m < 2 * facts)
HasLiterals facts _ = Unit {0}
