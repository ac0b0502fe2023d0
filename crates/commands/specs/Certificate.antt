-- Which texts are certificates of a formula.
use Rattle.std.specs.Prelude.{◌≡◌, ◌≤◌, ℕ, List}
use Rattle.clause_base.specs.Formula.{Cnf}
use Rattle.clause_base.specs.Derivation.{IsRefutation}
use Rattle.clause_base.specs.declared.log.Entry.{Entry}
use Rattle.proof_log.specs.Text.{AreWritten, proof_text}
use Rattle.horizon_rates.specs.Limits.{last_horizon}

-- a horizon and a log, spelled by a text
pub record IsSpelled (text : List ℕ) (horizon : ℕ) (log : List Entry) : Type 0 where
  pub within : horizon ≤ last_horizon
  pub written : AreWritten log
  pub spelled : text ≡ proof_text horizon log

-- a text spells a horizon and a derivation of the empty clause from the formula of that horizon
pub record IsCertificate (formula : ℕ → Cnf) (text : List ℕ) (horizon : ℕ) : Type 0 where
  pub log : List Entry
  pub is_spelled : IsSpelled text horizon log
  pub refutes : IsRefutation (formula horizon).variables (formula horizon).clauses log
