-- The first clause that an assignment does not make true.
use Rattle.std.specs.Prelude.{◌≡◌, ℕ, ◌<◌, Bool, true, false, List, Some, slice_get}
use Rattle.clause_base.specs.Clause.{clause_value}

-- The clause with this number, counted from 0, has no true literal, and each clause before it has one.
pub record IsFirstFalse (values : ℕ → Bool) (clauses : List (List ℕ)) (number : ℕ) : Type 0 where
  pub clause : List ℕ
  pub there : slice_get clauses number ≡ Some clause
  pub untrue : clause_value values clause ≡ false
  pub before : (k : ℕ) (other : List ℕ) → k < number → slice_get clauses k ≡ Some other → clause_value values other ≡ true
