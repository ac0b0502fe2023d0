-- What the judge promises of the files.
use Rattle.std.specs.Prelude.{◌≡◌, ◌⊎◌, ℕ, Bool, List}
use Rattle.sat_text.specs.Dimacs.{formula_text}
use Rattle.pd_model.specs.declared.parts.Parts.{Parts}
use Rattle.requests.specs.declared.request.Stepping.{Stepping}
use Rattle.plan_tasks.specs.Stepping.{places_by}
use Rattle.step_plans.specs.Known.{form_of, formula_at}
use Rattle.plan_tasks.specs.Claims.{OfGrounded, NoStepPlan, NoPlan}
pub use Rattle.plan_tasks.specs.ToldPlans.{PlanRunsIn}
use Rattle.lrat_judge.specs.Verdicts.{verdict_of}
use Rattle.lrat_judge.specs.declared.verdict.Verdict.{Verdict}
use Rattle.lrat_judge.specs.declared.verdict.Verdict.TheVariants.{Refuted, Rejected, NotEmpty, Syntax}
use Rattle.judge_top.specs.Ended.{text_of}
use Rattle.judge_top.specs.declared.ended.Ended.TheVariants.{Plain, NoModel, NoText}
use Rattle.plan_endings.specs.declared.ending.Ending.{Ending}
use Rattle.grounding_defs.specs.Grounded.{Grounded}
use Rattle.plan_tasks.specs.Tasks.{AreTask, StopsTask}
use Rattle.plan_report.specs.Report.{plan_text}
use Rattle.sat_text.specs.FirstFalse.{IsFirstFalse}
use Rattle.sat_text.specs.Values.{NoText as no_text, Values as values_read}
use Rattle.pl_io.specs.Tape.{Given, IsReadOnce, IsFileOf}
use Rattle.clause_base.specs.Formula.{IsModel, assignment_of}
use Rattle.step_laws.specs.Form.{steps_at}
use Rattle.judge_top.specs.Answers.{IsReadAs, word_of, ended_by}

-- the task has no step plan of so many steps, nor of fewer, and no plan of at most so many actions
abbrev pub IsProvedNone : Stepping → ℕ → Parts → Type 0
IsProvedNone how horizon task = NoStepPlan how horizon task × NoPlan horizon task

-- the text is that of the formula of a horizon of the task
abbrev pub TellsFormula : Stepping → ℕ → List ℕ → Parts → Type 0
TellsFormula how horizon text task =
    OfGrounded task (λ g clauses components. text ≡ formula_text (word_of how) horizon (formula_at (places_by how) (form_of g.task clauses components) horizon))

-- a file of this name was opened, once and no other, each call that read it gave what came next, and the claim holds
abbrev pub WhenRead : Given → Given → List ℕ → (Parts → Type 0) → Parts → Type 0
WhenRead old new name claim task = IsReadOnce old new name × claim task

-- the verdict on the bytes of a whole file, of which these were handed over, for the formula of a horizon of the task, meets the claim
abbrev pub OfVerdict : Stepping → ℕ → Given → (Verdict → Type 0) → Parts → Type 0
OfVerdict how horizon given claim task =
    OfGrounded task (λ g clauses components. (file : List ℕ) → IsFileOf given file → claim (verdict_of (formula_at (places_by how) (form_of g.task clauses components) horizon) file))

-- a verdict that the empty clause is one of the formula's, or that lines derive it
abbrev pub IsAccepted : Verdict → Type 0
IsAccepted verdict = (entries : ℕ) × (verdict ≡ Refuted entries)

-- a verdict that this text tells: a line is the first that does not follow, or each follows and none adds the empty clause
abbrev pub IsRejected : ℕ → List ℕ → Verdict → Type 0
IsRejected horizon text verdict = (((line : ℕ) × (verdict ≡ Rejected line)) ⊎ (verdict ≡ NotEmpty)) × (text ≡ text_of (ended_by horizon verdict))

-- ---- models

-- What the bytes of a whole file, of which some were handed over, come to as a model's text for a horizon, and the text that tells of it.
module _ (how : Stepping) (horizon : ℕ) (given : Given) (text : List ℕ) (task : Parts) where
  -- they tell values that are a model of the formula, and the text tells the steps that these stand for
  abbrev pub IsModelTold : Grounded → List (ℕ × ℕ) → List (List ℕ) → Type 0
  IsModelTold g clauses components =
      (values : List Bool) × IsReadAs (formula_at (places_by how) (form_of g.task clauses components) horizon).variables given (values_read values)
      × IsModel (formula_at (places_by how) (form_of g.task clauses components) horizon) values
      × (text ≡ plan_text task g horizon (steps_at (form_of g.task clauses components) (places_by how g.task components) horizon (assignment_of values)))

  -- they tell values that leave a clause of the formula untrue, and the text tells the first
  abbrev pub IsNoModelTold : Grounded → List (ℕ × ℕ) → List (List ℕ) → Type 0
  IsNoModelTold g clauses components =
      (values : List Bool) × (clause : ℕ) × IsReadAs (formula_at (places_by how) (form_of g.task clauses components) horizon).variables given (values_read values)
      × IsFirstFalse (assignment_of values) (formula_at (places_by how) (form_of g.task clauses components) horizon).clauses clause × (text ≡ text_of (NoModel clause))

  -- they are no text of a model, and the text tells where
  abbrev pub IsNoTextTold : Grounded → List (ℕ × ℕ) → List (List ℕ) → Type 0
  IsNoTextTold g clauses components = (at : ℕ) × IsReadAs (formula_at (places_by how) (form_of g.task clauses components) horizon).variables given (no_text at) × (text ≡ text_of (NoText at))

-- the same of a task
abbrev pub TellsModel : Stepping → ℕ → Given → List ℕ → Parts → Type 0
TellsModel how horizon given text task = OfGrounded task (IsModelTold how horizon given text task)

-- the values that the bytes tell leave a clause of the formula untrue, and the text tells the first
abbrev pub TellsNoModel : Stepping → ℕ → Given → List ℕ → Parts → Type 0
TellsNoModel how horizon given text task = OfGrounded task (IsNoModelTold how horizon given text task)

-- the bytes are no text of a model, and the text tells where
abbrev pub TellsNoText : Stepping → ℕ → Given → List ℕ → Parts → Type 0
TellsNoText how horizon given text task = OfGrounded task (IsNoTextTold how horizon given text task)

-- ---- refusals

-- two files are no task, of which this text tells, or a task, of which the claim holds
abbrev pub OrNoTask : List ℕ → (Parts → Type 0) → List ℕ → List ℕ → Type 0
OrNoTask text claim first second = ((end : Ending) × StopsTask first second end × (text ≡ text_of (Plain end))) ⊎ ((task : Parts) × AreTask first second task × claim task)

-- a verdict that this text tells: the line at an offset is none
abbrev pub IsNoProof : ℕ → List ℕ → Verdict → Type 0
IsNoProof horizon text verdict = ((at : ℕ) × (verdict ≡ Syntax at)) × (text ≡ text_of (ended_by horizon verdict))
