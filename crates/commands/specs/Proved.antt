-- What the run of a horizon comes to, with its certificate.
use Rattle.std.specs.Prelude.{◌≡◌, ◌≤◌, ℕ, Bool, List, length, nat_le, if◌then◌else◌}
use Rattle.clause_base.specs.Formula.{IsModel}
use Rattle.clause_base.specs.declared.log.Entry.{Entry}
use Rattle.cdcl_defs.specs.State.{State}
use Rattle.cdcl_defs.specs.declared.standing.Standing.{Standing}
use Rattle.cdcl_defs.specs.declared.standing.Standing.TheVariants.{Going, Found, Refuted}
use Rattle.gt_core.specs.Task.{Task}
use Rattle.horizon_run.specs.Run.{reached, Stays}
use Rattle.formula_defs.specs.Variables.{chain_places}
use Rattle.step_encoding.specs.Limits.{planner_literals}
use Rattle.step_encoding.specs.Numbers.{literals_of}
use Rattle.proof_log.specs.Text.{proof_text}
use Rattle.commands.specs.Known.{IsOrdered, form_of, choice_at, formula_at}
use Rattle.commands.specs.Certificate.{IsCertificate}
use Rattle.commands.specs.declared.prove.Proved.{Proved}
use Rattle.commands.specs.declared.prove.Proved.TheVariants.{Certificate, TooLong, Plan, Open}
use Rattle.containers.specs.Limits.{certificate_bytes}

-- the certificate of a horizon and a log, where it is not too long
abbrev pub certificate_of : ℕ → List Entry → Proved
certificate_of horizon log = if nat_le (length (proof_text horizon log)) certificate_bytes then Certificate (proof_text horizon log) else TooLong

-- what the run of a horizon comes to that stands so in a state
abbrev pub proved_as : ℕ → Standing → State → Proved
proved_as horizon Refuted state = certificate_of horizon state.log
proved_as horizon Found state = Plan state.conflicts
proved_as horizon Going state = Open state.conflicts

-- what the run of a horizon comes to in a state
abbrev pub proved_of : ℕ → State → Proved
proved_of horizon state = proved_as horizon state.standing state

-- The run of a horizon of a task comes to this once a budget of conflicts was granted. What it gives as a certificate is one;
-- where it is open it has used up the budget; where it found a plan the formula of the horizon has a model; and a run that is settled stays as
-- it is under each greater budget.
pub record Proves (task : Task) (horizon budget : ℕ) (proved : Proved) : Type 0 where
  pub clauses : List (ℕ × ℕ)
  pub components : List (List ℕ)
  pub ordered : IsOrdered task clauses components
  pub small : literals_of (formula_at chain_places (form_of task clauses components) horizon) ≤ planner_literals
  pub is : proved ≡ proved_of horizon (reached (choice_at chain_places (form_of task clauses components) horizon) (formula_at chain_places (form_of task clauses components) horizon) budget)
  pub certified : (text : List ℕ) → proved ≡ Certificate text → IsCertificate (formula_at chain_places (form_of task clauses components)) text horizon
  pub spent : (conflicts : ℕ) → proved ≡ Open conflicts → conflicts ≡ budget
  pub found : (conflicts : ℕ) → proved ≡ Plan conflicts → (values : List Bool) × IsModel (formula_at chain_places (form_of task clauses components) horizon) values
  pub stays : Stays (choice_at chain_places (form_of task clauses components) horizon) (formula_at chain_places (form_of task clauses components) horizon)
