-- What a store keeps of its clauses.
use Rattle.std.specs.Prelude.{◌≡◌, ℕ, ◌+◌, ◌≤◌, List, length, Bool, true, false, All}
use Rattle.clause_base.specs.Clause.{IsClause}
use Rattle.cdcl_tables.specs.declared.added.Added.{Added}
use Rattle.cdcl_tables.specs.declared.added.Added.TheVariants.{Whole, Packed}

-- the clauses of a formula, counted, and those that were added: so a number below the count is looked up in the formula and any other
-- among those that were added, and each number has 32 bits
pub record IsStored (given : List (List ℕ)) (count : ℕ) (added : List (List ℕ)) : Type 0 where
  pub counted : count ≡ length given
  pub few : length given + length added ≤ 4294967295
  pub lawful : All IsClause added

-- the literals of an added clause
abbrev pub lits_of : Added → List ℕ
lits_of (Whole lits) = lits
lits_of (Packed lits) = lits

-- whether they cannot be read
abbrev pub is_packed : Added → Bool
is_packed (Whole lits) = false
is_packed (Packed lits) = true
