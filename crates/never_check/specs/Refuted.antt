-- Cases that are contradicted, from the literals on a trail and some more clauses.
use Rattle.std.specs.Prelude.{ℕ, List, map, Bool}
use Rattle.std.specs.List.{AllByRecursion}
use Rattle.implied_literals.specs.Rows.{HasNoPair}
use Rattle.never_defs.specs.Cases.{Case, both}
use Rattle.never_check.specs.Follow.{HasAll, Obeys}
use Rattle.never_check.specs.Rules.{ObeysRules}
use Rattle.never_check.specs.declared.rules.Rules.{Rules}

-- a set of literals obeys the rules and more clauses
abbrev pub ObeysMore : Rules → List (List ℕ) → (ℕ → Bool) → Type 0
ObeysMore rules more set = ObeysRules rules set × AllByRecursion (Obeys set) more

-- no set with the literals and those of a case, that obeys the rules, more clauses and those of the case, is without two opposite literals
abbrev pub IsContradicted : Rules → List (List ℕ) → List ℕ → Case → Type 0
IsContradicted rules more ls q =
    (set : ℕ → Bool) → ObeysMore rules more set → AllByRecursion (Obeys set) q.clauses → HasAll set ls → HasAll set q.literals → HasNoPair set → ⊥

-- each of some cases is
abbrev pub AreContradicted : Rules → List (List ℕ) → List ℕ → List Case → Type 0
AreContradicted rules more ls qs = AllByRecursion (IsContradicted rules more ls) qs

-- each of some cases is, together with one way
abbrev pub IsWayContradicted : Rules → List (List ℕ) → List ℕ → List Case → Case → Type 0
IsWayContradicted rules more ls qs p = AreContradicted rules more ls (map (both p) qs)
