-- Of which step or time a literal is, and the five lists of its pairs.
use Rattle.std.specs.Prelude.{◌≡◌, ℕ, ◌-◌, ◌*◌, ◌/◌, ◌%◌, ◌<◌, ◌≤◌, List, []}
use Rattle.clause_base.specs.declared.pair.Pair.{Pair}
use Rattle.cdcl_tables.specs.declared.shape.Shape.{Shape}
use Rattle.cdcl_tables.specs.declared.origin.Origin.{Origin}
use Rattle.cdcl_tables.specs.declared.origin.Origin.TheVariants.{Step, Time, Other}
use Rattle.cdcl_tables.specs.own.Lists.{facts_begin, facts_end}

-- by division
abbrev pub IsOrigin : Shape → ℕ → Origin → Type 0
IsOrigin z x (Step u l) = (x < facts_begin z) × (u ≡ x / (2 * z.width)) × (l ≡ x % (2 * z.width))
IsOrigin z x (Time t l) = (facts_begin z ≤ x) × (x < facts_end z) × (t ≡ (x - facts_begin z) / (2 * z.facts)) × (l ≡ (x - facts_begin z) % (2 * z.facts))
IsOrigin z x Other = (facts_begin z ≤ x) × (facts_end z ≤ x)

-- five lists that stand one after another, and of which step or time their literal is
pub record ListsView : Type 0 where
  pub origin : Origin
  pub told : List Pair
  pub last : List Pair
  pub next : List Pair
  pub time : List Pair
  pub after : List Pair

-- which lists are empty: of a literal of a step those of facts, and of one of neither step nor time those of both
abbrev pub AreEmptyBy : Origin → (last next time : List Pair) → Type 0
AreEmptyBy (Step u l) last next time = (last ≡ []) × (time ≡ [])
AreEmptyBy (Time t l) last next time = Unit {0}
AreEmptyBy Other last next time = (last ≡ []) × (next ≡ []) × (time ≡ [])
