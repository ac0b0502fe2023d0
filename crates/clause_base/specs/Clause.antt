use Rattle.std.specs.Prelude.{◌≡◌, ℕ, ◌/◌, ◌<◌, ◌==◌, List, [], ◌∷◌, Bool, false, All, fold, nat_lt, if◌then◌else◌, Option, Some, None}
use Rattle.std.specs.List.{list_any, list_all}
use Rattle.containers.specs.Rising.{put}
use Rattle.clause_base.specs.Literal.{opposite, literal_value}

-- a literal is among these
abbrev pub has_literal : List ℕ → ℕ → Bool
has_literal lits l = list_any (λ m. m == l) lits

-- each literal is below the next
abbrev pub IsRising : List ℕ → Type 0
IsRising [] = Unit {0}
IsRising (l ∷ []) = Unit {0}
IsRising (l ∷ m ∷ lits) = (l < m) × IsRising (m ∷ lits)

-- some literal stands beside its negation
abbrev pub has_opposite_pair : List ℕ → Bool
has_opposite_pair lits = list_any (λ l. has_literal lits (opposite l)) lits

-- a clause: sorted and distinct literals with no opposite pair, read as "one of these is true"
pub record IsClause (lits : List ℕ) : Type 0 where
  pub rising : IsRising lits
  pub no_pair : has_opposite_pair lits ≡ false

-- the clause of these literals, or none where there is an opposite pair
abbrev pub clause_of : List ℕ → Option (List ℕ)
clause_of lits = if has_opposite_pair lits then None else Some (fold put [] lits)

-- whether an assignment makes some literal of a clause true
abbrev pub clause_value : (ℕ → Bool) → List ℕ → Bool
clause_value values clause = list_any (literal_value values) clause

-- the variables of a clause are below a number
abbrev pub HasVariablesBelow : ℕ → List ℕ → Type 0
HasVariablesBelow n clause = All (λ l. l / 2 < n) clause

-- the same as a test
abbrev pub has_variables_below : ℕ → List ℕ → Bool
has_variables_below n clause = list_all (λ l. nat_lt (l / 2) n) clause
