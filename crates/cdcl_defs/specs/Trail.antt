use Rattle.std.specs.Prelude.{◌≡◌, ℕ, List, [], ◌∷◌, true, false, Option, Some, None, ◌⊎◌}
use Rattle.clause_base.specs.Literal.{opposite}
use Rattle.clause_base.specs.Clause.{has_literal}
use Rattle.cdcl_defs.specs.declared.trail.Assigned.{Assigned}
use Rattle.cdcl_defs.specs.State.{is_on}

-- each literal of a clause is false
abbrev pub AllFalse : List Assigned → List ℕ → Type 0
AllFalse trail clause = (m : ℕ) → has_literal clause m ≡ true → is_on trail (opposite m) ≡ true

-- by what numbers name: the clause that forced a literal has it, and its other literals were false before
pub record IsReason (named : ℕ → Option (List ℕ)) (older : List Assigned) (l r : ℕ) : Type 0 where
  pub clause : List ℕ
  pub is_named : named r ≡ Some clause
  pub has : has_literal clause l ≡ true
  pub others : (m : ℕ) → has_literal clause m ≡ true → (m ≡ l) ⊎ (is_on older (opposite m) ≡ true)

-- a literal was decided, or forced by its clause
abbrev pub HasReason : (ℕ → Option (List ℕ)) → List Assigned → ℕ → Option ℕ → Type 0
HasReason named older l None = Unit {0}
HasReason named older l (Some r) = IsReason named older l r

-- an entry that may follow older ones: its variable has no value by them, and it has its reason in them
pub record IsEntry (named : ℕ → Option (List ℕ)) (a : Assigned) (older : List Assigned) : Type 0 where
  pub off : is_on older a.literal ≡ false
  pub free : is_on older (opposite a.literal) ≡ false
  pub reason : HasReason named older a.literal a.reason

-- a trail, read from its last entry: each entry may follow the older ones
abbrev pub IsTrail : (ℕ → Option (List ℕ)) → List Assigned → Type 0
IsTrail named [] = Unit {0}
IsTrail named (a ∷ older) = IsEntry named a older × IsTrail named older
