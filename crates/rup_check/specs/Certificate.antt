use Rattle.std.specs.Prelude.{◌≡◌, ℕ, List, length}
use Rattle.clause_base.specs.Formula.{Cnf, IsUnsatisfiable}
use Rattle.clause_base.specs.Derivation.{IsRefutation}
use Rattle.clause_base.specs.declared.log.Entry.{Entry}

-- the name of a formula, and the length of a log
pub record Stamp : Type 0 where
  pub name : ℕ
  pub entries : ℕ

-- the stamp is that of this formula and this log, the log is a derivation from the formula that ends with the empty clause,
-- and the formula has no satisfying assignment
pub record Certifies (stamp : Stamp) (formula : Cnf) (log : List Entry) : Type 0 where
  pub name : stamp.name ≡ formula.name
  pub entries : stamp.entries ≡ length log
  pub refutation : IsRefutation formula.variables formula.clauses log
  pub unsatisfiable : IsUnsatisfiable formula.clauses
