-- The learned clauses that are kept and long.
use Rattle.std.specs.Prelude.{ℕ, ◌-◌, ◌&&◌, List, Bool, nat_lt, filter, length}
use Rattle.std.specs.List.{range_with_len}
use Rattle.cdcl_defs.specs.State.{clause_at, is_kept}

-- the clause with this number is kept and has more than 8 literals
abbrev pub is_long : List (List ℕ) → List Bool → ℕ → Bool
is_long clauses kept number = is_kept kept number && nat_lt 8 (length (clause_at clauses number))

-- the numbers of those that were learned, where so many clauses are given by the formula
abbrev pub long_ones : ℕ → List (List ℕ) → List Bool → List ℕ
long_ones given clauses kept = filter (is_long clauses kept) (range_with_len given (length clauses - given))
