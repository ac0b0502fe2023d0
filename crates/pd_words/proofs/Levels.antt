-- Variables list by list.
use Rattle.std.proofs.Common.{◌≡◌, ℕ, Option, Some, None, refl}
use Rattle.pd_words.specs.Names.{or_else}

pub or_else_assoc : (inner middle outer : Option ℕ) → or_else inner (or_else middle outer) ≡ or_else (or_else inner middle) outer
or_else_assoc (Some n) middle outer = refl
or_else_assoc None middle outer = refl
