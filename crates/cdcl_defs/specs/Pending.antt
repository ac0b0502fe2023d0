-- Which clause comes next: the first in order of number that is kept and pending.
use Rattle.std.specs.Prelude.{ℕ, zero, suc, ◌+◌, ◌&&◌, List, Bool, not, Option, Some, None, if◌then◌else◌, filter, length, nat_le}
use Rattle.std.specs.List.{list_any}
use Rattle.clause_base.specs.Literal.{opposite}
use Rattle.cdcl_defs.specs.State.{State, clause_at, is_kept, is_on}

-- the literals of a clause that are not false, where this tells the true ones
abbrev pub open_ones : (ℕ → Bool) → List ℕ → List ℕ
open_ones is_true clause = filter (λ l. not (is_true (opposite l))) clause

-- a clause is pending: it has no true literal, and at most one that is not false
abbrev pub is_pending : (ℕ → Bool) → List ℕ → Bool
is_pending is_true clause = not (list_any is_true clause) && nat_le (length (open_ones is_true clause)) 1

-- the clause with this number is kept and pending
abbrev pub is_pending_in : List (List ℕ) → List Bool → (ℕ → Bool) → ℕ → Bool
is_pending_in clauses kept is_true number = is_kept kept number && is_pending is_true (clause_at clauses number)

-- the least of n numbers from k on that passes a test
abbrev pub least_from : (ℕ → Bool) → ℕ → ℕ → Option ℕ
least_from passes k zero = None
least_from passes k (suc n) = if passes k then Some k else least_from passes (k + 1) n

-- the number of the first clause that is kept and pending
abbrev pub first_pending : State → Option ℕ
first_pending s = least_from (is_pending_in s.clauses s.kept (is_on s.trail)) 0 (length s.clauses)
