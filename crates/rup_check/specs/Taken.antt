-- What a checker has taken, entry by entry.
use Rattle.std.specs.Prelude.{◌≡◌, ℕ, List, length, Bool, Option, IsTrue, IfSome}
use Rattle.std.specs.List.{list_any}
use Rattle.clause_base.specs.Clause.{HasVariablesBelow}
use Rattle.clause_base.specs.Formula.{Cnf, IsUnsatisfiable}
use Rattle.clause_base.specs.Derivation.{IsDerivation, learns_empty}
use Rattle.clause_base.specs.declared.log.Entry.{Entry}
use Rattle.rup_check.specs.own.Kept.{IsKnownAfter, kept_named}

-- the formula, what is known after the entries so far, and whether one of them learned the empty clause
pub record CheckerView : Type 0 where
  pub formula : Cnf
  pub dropped : List Bool
  pub learned : List (Option (List ℕ))
  pub refuted : Bool

-- these are the entries that a checker has taken: a derivation from its formula, by which it goes on, and it is refuted
-- exactly where one of them learns the empty clause
pub record HasTaken (checker : CheckerView) (log : List Entry) : Type 0 where
  pub derived : IsDerivation checker.formula.variables checker.formula.clauses log
  pub known : IsKnownAfter checker.formula.clauses log checker.dropped checker.learned
  pub refuted : checker.refuted ≡ list_any learns_empty log

-- the clauses that numbers name have variables below a number
abbrev pub NamesBelow : ℕ → List (List ℕ) → List Bool → List (Option (List ℕ)) → Type 0
NamesBelow variables clauses dropped learned = (number : ℕ) → IfSome (kept_named clauses dropped learned number) (HasVariablesBelow variables)

-- a checker has taken some entries; if it is refuted, its formula has no satisfying assignment: so a verdict is true of each checker,
-- whoever handed it the entries
pub record IsSound (checker : CheckerView) : Type 0 where
  pub log : List Entry
  pub taken : HasTaken checker log
  pub unsatisfiable : IsTrue checker.refuted → IsUnsatisfiable checker.formula.clauses
  pub long : length checker.dropped ≡ length checker.formula.clauses
  pub below : NamesBelow checker.formula.variables checker.formula.clauses checker.dropped checker.learned
