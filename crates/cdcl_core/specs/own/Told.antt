-- What the chooser of a solver was told.
use Rattle.std.specs.Prelude.{◌≡◌, ℕ, ◌≤◌, List, length, take}
use Rattle.cdcl_defs.specs.declared.trail.Assigned.{Assigned}
use Rattle.cdcl_tables.specs.Assignment.{literals}

-- up to a length the literals that were told are those on a trail, so that what changed from there on alone is told before a choice
pub record IsToldUpTo (knows : List ℕ → Type 0) (kept : ℕ) (trail : List Assigned) : Type 0 where
  pub told : List ℕ
  pub known : knows told
  pub within : kept ≤ length trail
  pub same : take kept told ≡ take kept (literals trail)
