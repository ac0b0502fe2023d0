use Rattle.std.specs.Prelude.{◌≡◌, ℕ, ◌<◌, ◌==◌, ◌&&◌, ◌⊎◌, List, Bool, true, not, length, All, Option, Some, None}
use Rattle.clause_base.specs.Literal.{opposite}
use Rattle.clause_base.specs.Clause.{has_literal}
use Rattle.cdcl_tables.specs.Stored.{StoreView, CanRead}
use Rattle.cdcl_defs.specs.declared.trail.Assigned.{Assigned}
use Rattle.cdcl_defs.specs.State.{clause_at, is_on}

-- the walk stops: there is a decision, and one literal of its level
abbrev pub stops : ℕ → ℕ → Bool
stops level count = not (level == 0) && (count == 1)

-- the literals of a clause but one are false
abbrev pub OthersFalse : List Assigned → List ℕ → ℕ → Type 0
OthersFalse trail clause l = (m : ℕ) → has_literal clause m ≡ true → (m ≡ l) ⊎ (is_on trail (opposite m) ≡ true)

-- a clause that forced a literal has no other literal that is not false
abbrev pub IsForcedBy : List (List ℕ) → List Assigned → ℕ → Option ℕ → Type 0
IsForcedBy clauses trail l None = Unit {0}
IsForcedBy clauses trail l (Some r) = (r < length clauses) × OthersFalse trail (clause_at clauses r) l

-- each entry that was forced has its reason
abbrev pub IsReasoned : List (List ℕ) → List Assigned → Type 0
IsReasoned clauses trail = All (λ a. IsForcedBy clauses trail a.literal a.reason) trail

-- the clause that forced an entry can be read
abbrev pub IsReasonRead : StoreView → Option ℕ → Type 0
IsReasonRead store None = Unit {0}
IsReasonRead store (Some r) = CanRead store r

-- the reason of each forced entry can be
abbrev pub AreReasonsRead : StoreView → List Assigned → Type 0
AreReasonsRead store trail = All (λ a. IsReasonRead store a.reason) trail
