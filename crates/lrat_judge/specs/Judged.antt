-- What a judge knows of a proof.
use Rattle.std.specs.Prelude.{◌≡◌, ◌||◌, ◌==◌, ℕ, Bool, List, length, true}
use Rattle.std.specs.List.{list_any}
use Rattle.clause_base.specs.Formula.{Cnf}
use Rattle.clause_base.specs.Derivation.{IsDerivation, learns_empty}
use Rattle.clause_base.specs.declared.log.Entry.{Entry}
pub use Rattle.sat_text.specs.Lines.{counted}
use Rattle.rup_check.specs.Taken.{CheckerView, HasTaken}

-- whether the empty clause is one of these
abbrev pub has_empty : List (List ℕ) → Bool
has_empty clauses = list_any (λ clause. length clause == 0) clauses

-- the formula that it judges proofs for, what its checker knows, the ids of the clauses, the offset and the count of the lines so far and of
-- the entries so far, and the bytes of the line that is not whole yet
pub record Judged : Type 0 where
  pub formula : Cnf
  pub checker : CheckerView
  pub ids : List ℕ
  pub at : ℕ
  pub count : ℕ
  pub entries : ℕ
  pub front : List ℕ

-- a checker has taken so many entries
pub record HasCounted (checker : CheckerView) (entries : ℕ) : Type 0 where
  pub log : List Entry
  pub taken : HasTaken checker log
  pub count : entries ≡ counted (length log)

-- some derivation of so many entries, each of which adds a clause or drops one, learns the empty clause, or it is one of the formula's
pub record IsRefutedBy (formula : Cnf) (entries : ℕ) : Type 0 where
  pub log : List Entry
  pub derived : IsDerivation formula.variables formula.clauses log
  pub empty : (has_empty formula.clauses || list_any learns_empty log) ≡ true
  pub count : entries ≡ counted (length log)
