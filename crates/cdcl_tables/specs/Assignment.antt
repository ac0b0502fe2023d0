use Rattle.std.specs.Prelude.{◌≡◌, ℕ, ◌*◌, ◌/◌, ◌<◌, ◌≤◌, List, map, length, slice_index, slice_index_or, Bool, false}
use Rattle.clause_base.specs.Clause.{has_literal}
use Rattle.cdcl_defs.specs.declared.trail.Assigned.{Assigned}

-- the literals that are true, oldest first, over so many variables
pub record AssignmentView : Type 0 where
  pub variables : ℕ
  pub trail : List ℕ

-- the literals of a trail's entries
abbrev pub literals : List Assigned → List ℕ
literals entries = map (λ a. a.literal) entries

-- the tables of an assignment: for each literal whether it is true, and for each variable its position on the trail, so that either is
-- known by one look without going along the trail
pub record IsAssignment (n : ℕ) (trail : List ℕ) (on : List Bool) (positions : List ℕ) : Type 0 where
  pub small : n ≤ 2147483647
  pub short : length trail ≤ n
  pub positions_size : length positions ≡ n
  pub on_size : length on ≡ 2 * n
  pub truths : (l : ℕ) → l < 2 * n → slice_index_or on l false ≡ has_literal trail l
  pub below : (i : ℕ) → i < length trail → slice_index trail i < 2 * n
  pub positions_are : (i : ℕ) → i < length trail → slice_index positions (slice_index trail i / 2) ≡ i
