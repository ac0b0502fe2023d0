-- What a checker says of a log.
use Rattle.std.specs.Prelude.{◌≡◌, ◌≤◌, ℕ, List, length}
use Rattle.clause_base.specs.Formula.{Cnf}
use Rattle.clause_base.specs.Derivation.{IsDerivation, EndsEmpty, IsFirstUnderived, IsRefutation}
use Rattle.clause_base.specs.declared.log.Entry.{Entry}
use Rattle.gt_core.specs.Task.{Task}
use Rattle.gt_core.specs.Published.{order_of}
use Rattle.gt_core.specs.Step.{IsStepPlan}
use Rattle.formula_defs.specs.Variables.{chain_places}
use Rattle.step_laws.specs.Form.{AreSets}
use Rattle.step_encoding.specs.Limits.{planner_literals}
use Rattle.step_encoding.specs.Numbers.{literals_of}
use Rattle.commands.specs.Known.{IsOrdered, form_of, formula_at}
use Rattle.commands.specs.declared.verify.Judged.{Judged}
use Rattle.commands.specs.declared.verify.Judged.TheVariants.{Accepted, Rejected, NotEmpty}

-- a formula and a log are judged so
abbrev pub IsJudged : Cnf → List Entry → Judged → Type 0
IsJudged formula log (Accepted entries) = (entries ≡ length log) × IsRefutation formula.variables formula.clauses log
IsJudged formula log (Rejected entry) = IsFirstUnderived formula.variables formula.clauses log entry
IsJudged formula log NotEmpty = IsDerivation formula.variables formula.clauses log × (EndsEmpty log → ⊥)

-- A log is judged so over the formula of a horizon of a task; where it is accepted no lists of actions are a step plan of so many steps.
pub record Judges (task : Task) (horizon : ℕ) (log : List Entry) (judged : Judged) : Type 0 where
  pub clauses : List (ℕ × ℕ)
  pub components : List (List ℕ)
  pub ordered : IsOrdered task clauses components
  pub small : literals_of (formula_at chain_places (form_of task clauses components) horizon) ≤ planner_literals
  pub is : IsJudged (formula_at chain_places (form_of task clauses components) horizon) log judged
  pub none : (entries : ℕ) → judged ≡ Accepted entries → (steps : List (List ℕ)) → AreSets IsStepPlan task (order_of components) steps horizon → ⊥
