-- Which learned clauses are dropped at a restart, as in the clause deletion of MiniSat (Eén and Sörensson, 2003), by number alone.
use Rattle.std.specs.Prelude.{ℕ, ◌-◌, ◌/◌, ◌==◌, ◌&&◌, List, Bool, false, not, Option, Some, None, nat_lt, filter, fold, length, take, slice_set}
use Rattle.std.specs.List.{list_any, range_with_len}
use Rattle.cdcl_defs.specs.declared.trail.Assigned.{Assigned}
use Rattle.cdcl_defs.specs.State.{clause_at, is_kept}

-- the clause with this number is the reason
abbrev pub is_reason : ℕ → Option ℕ → Bool
is_reason number None = false
is_reason number (Some r) = r == number

-- the clause with this number forced an entry of the trail
abbrev pub has_forced : List Assigned → ℕ → Bool
has_forced trail number = list_any (λ a. is_reason number a.reason) trail

-- a learned clause may be dropped where it is kept, has more than 8 literals and forced no entry of the trail
abbrev pub is_candidate : List (List ℕ) → List Bool → List Assigned → ℕ → Bool
is_candidate clauses kept trail number = is_kept kept number && (nat_lt 8 (length (clause_at clauses number)) && not (has_forced trail number))

-- the candidates in order of number, where so many clauses are given by the formula
abbrev pub candidates : ℕ → List (List ℕ) → List Bool → List Assigned → List ℕ
candidates given clauses kept trail = filter (is_candidate clauses kept trail) (range_with_len given (length clauses - given))

-- the first half of some numbers, rounded down
abbrev pub first_half : List ℕ → List ℕ
first_half numbers = take (length numbers / 2) numbers

-- which clauses are kept when these are dropped
abbrev pub kept_without : List Bool → List ℕ → List Bool
kept_without kept numbers = fold (λ flags number. slice_set flags number false) kept numbers
