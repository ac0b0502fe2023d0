-- What literals are followed by.
use Rattle.std.specs.Prelude.{◌≡◌, ℕ, ◌*◌, List, [], Bool}
use Rattle.std.specs.List.{AllByRecursion}
use Rattle.gt_core.specs.Clauses.{KnownClauses, IsKnownClauses}
use Rattle.never_check.specs.Follow.{HasAll, AreBelow, AreUses, ObeysAll, IsFollowed}
use Rattle.never_check.specs.declared.rules.Rules.{Rules}
use Rattle.never_check.specs.declared.rules.Nothing.{Nothing}

-- the clauses are over the facts of the known ones, and the numbers of those with each literal are listed
pub record AreRules (rules : Rules) : Type 0 where
  pub known : IsKnownClauses rules.known.now
  pub over : AllByRecursion (AreBelow (2 * rules.known.now.facts)) rules.clauses.now
  pub uses : AreUses (2 * rules.known.now.facts) rules.clauses.now rules.uses.now

-- no clauses, with a list for each literal of so many facts
pub record IsNothing (facts : ℕ) (nothing : Nothing) : Type 0 where
  pub none : nothing.clauses ≡ []
  pub uses : AreUses (2 * facts) nothing.clauses nothing.uses.items

-- they are these known clauses alone
pub record ArePlain (pairs : KnownClauses) (plain : Rules) : Type 0 where
  pub rules : AreRules plain
  pub none : plain.clauses.now ≡ []
  pub known : plain.known.now ≡ pairs

-- a set of literals obeys them
abbrev pub ObeysRules : Rules → (ℕ → Bool) → Type 0
ObeysRules rules = ObeysAll rules.known.now.clauses rules.clauses.now

-- what follows from the first literals is among all of them
abbrev pub AreFollowed : Rules → List ℕ → List ℕ → Type 0
AreFollowed rules = IsFollowed rules.known.now.clauses rules.clauses.now

-- a set of literals obeys them, and has some literals
abbrev pub ObeysWith : Rules → List ℕ → (ℕ → Bool) → Type 0
ObeysWith rules ls set = ObeysRules rules set × HasAll set ls
