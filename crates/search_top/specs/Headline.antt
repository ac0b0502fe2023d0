-- What is promised of the files.
use Rattle.std.specs.Prelude.{◌≡◌, ◌≤◌, ◌⊎◌, ℕ, List, [], ◌∷◌, ◌++◌, length, false, Ok, codes}
use Rattle.pl_io.specs.Outside.{Heard, whole}
use Rattle.two_invariants.specs.Closed.{AreInvariants}
use Rattle.never_defs.specs.Forward.{GoalPassesForward}
use Rattle.never_defs.specs.Backward.{IsBackwardCertificate}
use Rattle.never_check.specs.Exclusions.{IsExclusion}
use Rattle.never_check.specs.declared.excluded.Exclusion.{Exclusion}
use Rattle.never_text.specs.Certificate.{Forward, Backward, certificate_of, clauses_text}
use Rattle.never_search.specs.declared.answer.Answer.{Answer}
use Rattle.never_search.specs.declared.answer.End.TheVariants.{Open}
use Rattle.search_top.specs.Explored.{IsExplored, system_text}
use Rattle.clause_base.specs.Formula.{Cnf}
use Rattle.pl_io.specs.Tape.{Given, IsReadOnce, IsFileOf}
use Rattle.lrat_judge.specs.Verdicts.{verdict_of}
use Rattle.lrat_judge.specs.declared.verdict.Verdict.{Verdict}
use Rattle.lrat_judge.specs.declared.verdict.Verdict.TheVariants.{Refuted}
use Rattle.gt_core.specs.Task.{Task, initial_state}
use Rattle.never_defs.specs.Sets.{AreTrue}
use Rattle.never_form.specs.Formed.{IsNeverFormula}
use Rattle.search_top.specs.Ended.{status_of, text_of}
use Rattle.search_top.specs.Refuted.{never_text, ended_verdict, ended_initial, IsFalseAtFirst}
use Rattle.search_top.specs.declared.request.Format.{Format}
use Rattle.plan_tasks.specs.Tasks.{AreTask}
use Rattle.search_top.specs.declared.ended.Finding.{Finding}
use Rattle.search_top.specs.declared.judged.Judgement.{Judgement}
use Rattle.search_top.specs.Never.{exclusion_line, IsSaidOf, finding_of, judgement_line}
use Rattle.report_lines.specs.Lines.{joined}
use Rattle.pd_model.specs.Plan.{IsPlan}
use Rattle.pd_model.specs.declared.calls.Call.{Call}
use Rattle.pd_model.specs.declared.parts.Parts.{Parts}
use Rattle.pd_plan.specs.PlanFile.{plan_file}
use Rattle.grounding_defs.specs.Grounded.{Grounded, IsGrounded}
use Rattle.state_search.specs.Answer.{AreEntered}
pub use Rattle.never_laws.specs.Plans.{HasNoPlan}
use Rattle.search_top.specs.declared.request.How.{How}
use Rattle.search_top.specs.Budget.{budget_of}
use Rattle.search_top.specs.Report.{states_line}

-- the calls that the text prints are a plan of the task
abbrev pub PlanRuns : List ℕ → Parts → Type 0
PlanRuns text task = (calls : List Call) × (plan_file task text ≡ Ok calls) × IsPlan task calls

-- they are, and no plan has fewer calls
abbrev pub PlanIsLeast : List ℕ → Parts → Type 0
PlanIsLeast text task =
    (calls : List Call) × (plan_file task text ≡ Ok calls) × IsPlan task calls × ((others : List Call) → IsPlan task others → length calls ≤ length others)

-- What a task is grounded to: there is such, there is no other, and the claim holds of it.
pub record OfGround (task : Parts) (claim : Grounded → Type 0) : Type 0 where
  pub g : Grounded
  pub grounded : IsGrounded task g
  pub only : (h : Grounded) → IsGrounded task h → h ≡ g
  pub holds : claim g

-- ---- no plan of any length

-- the goal of the task is excluded under its invariants, and the text tells by what
abbrev pub TellsExclusion : List ℕ → Parts → Type 0
TellsExclusion text task =
    OfGround task (λ g. (known : List (ℕ × ℕ)) × (by : Exclusion) × AreInvariants g.task known × IsExclusion g.task known by × (text ≡ joined (exclusion_line task g by ∷ [])))

-- the invariants of the task do not exclude its goal, and it is not hopeless
abbrev pub IsOpen : Parts → Type 0
IsOpen task = OfGround task (λ g. (known : List (ℕ × ℕ)) × AreInvariants g.task known × (GoalPassesForward g.task known [] → ⊥))

-- What was handed over in between is three files of these names, all of each, of which two are a task, and the claim holds of it and of the
-- bytes of the third.
abbrev pub OfThree : List Heard → List Heard → List ℕ → List ℕ → List ℕ → (List ℕ → Parts → Type 0) → Type 0
OfThree old new domain problem third claim =
    (first second other : List ℕ) × (new ≡ old ++ whole domain first ∷ whole problem second ∷ whole third other ∷ []) × (task : Parts) × AreTask first second task × claim other task

-- this is said of a certificate by the check of its kind, under the invariants of the task; it comes to the finding, and the text tells it
abbrev pub IsJudgedAs : Finding → List ℕ → List ℕ → Parts → Type 0
IsJudgedAs finding text certificate task =
    OfGround task (λ g. (said : Judgement) × IsSaidOf g.task (certificate_of g.task.facts certificate) said × (finding_of said ≡ finding) × (text ≡ joined (judgement_line task g said ∷ [])))

-- ---- walks

-- as many states as the budget says were entered, each reached and no two equal, and the text tells that
abbrev pub IsSpent : How → ℕ → ℕ → List ℕ → Parts → Type 0
IsSpent how states memory text task =
    OfGround task (λ g. AreEntered g.task (budget_of how states memory g.task)
    × (text ≡ joined (states_line (budget_of how states memory g.task) (budget_of how states memory g.task) ∷ codes "; unfinished" ∷ [])))

-- ---- certificates that are searched for

-- the text is read as a certificate of clauses that are read backward, which is one by its definition under the invariants of the task
abbrev pub TellsSet : List ℕ → Parts → Type 0
TellsSet text task =
    OfGround task (λ g. (known : List (ℕ × ℕ)) × (clauses : List (List ℕ)) × AreInvariants g.task known × IsBackwardCertificate g.task known clauses
    × (certificate_of g.task.facts text ≡ Ok (Backward clauses)) × (text ≡ clauses_text false clauses))

-- a search took as many obligations as the budget says, and found nothing
abbrev pub IsSearched : ℕ → Parts → Type 0
IsSearched budget task = OfGround task (λ g. (answer : Answer) × IsExplored g.task budget answer × (answer.end ≡ Open) × (answer.obligations ≡ budget))

-- the text is the task as a transition system, in a format
abbrev pub TellsSystem : Format → List ℕ → Parts → Type 0
TellsSystem format text task = OfGround task (λ g. text ≡ system_text format g.task)

-- ---- certificates by their formula

-- the text of a certificate is clauses that are read forward, of which there is a formula, and the claim holds of these
abbrev pub OfFormula : List ℕ → Parts → (Task → List (List ℕ) → Cnf → Type 0) → Type 0
OfFormula certificate task claim =
    OfGround task (λ g. (clauses : List (List ℕ)) × (f : Cnf) × (certificate_of g.task.facts certificate ≡ Ok (Forward clauses)) × IsNeverFormula g.task clauses f × claim g.task clauses f)

-- the text is that of its formula
abbrev pub TellsFormula : List ℕ → List ℕ → Parts → Type 0
TellsFormula text certificate task = OfFormula certificate task (λ grounded clauses f. text ≡ never_text f)

-- What a tape had given before a run and after it, and the name of a proof.
module _ (old new : Given) (proof : List ℕ) where
  -- a file of that name was opened, once and no other, and each call that read it gave what came next; the clauses are all true in the initial
  -- state; and the claim holds of the verdict on the bytes of the whole file, of which some were handed over
  abbrev pub OfVerdict : (ℕ → Verdict → Type 0) → List ℕ → Parts → Type 0
  OfVerdict claim certificate task =
      OfFormula certificate task (λ grounded clauses f. IsReadOnce old new proof × AreTrue (initial_state grounded) clauses
      × ((file : List ℕ) → IsFileOf new file → claim (length clauses) (verdict_of f file)))

  -- the verdict is that the lines derive the empty clause from the formula, or that the formula has it, and the text tells that
  abbrev pub IsRefuted : List ℕ → List ℕ → Parts → Type 0
  IsRefuted text = OfVerdict (λ count verdict. ((entries : ℕ) × (verdict ≡ Refuted entries)) × (text ≡ text_of (ended_verdict count verdict)))

  -- it is one of status 1, which the text tells: a line does not follow, or each follows and none adds the empty clause
  abbrev pub IsNotRefuted : List ℕ → List ℕ → Parts → Type 0
  IsNotRefuted text = OfVerdict (λ count verdict. (status_of (ended_verdict count verdict) ≡ 1) × (text ≡ text_of (ended_verdict count verdict)))

-- the certificate is clauses that are read forward, one of which is false in the initial state, and the text tells which
abbrev pub TellsFalseAtFirst : List ℕ → List ℕ → Parts → Type 0
TellsFalseAtFirst text certificate task =
    OfGround task (λ g. (clauses : List (List ℕ)) × (k : ℕ) × (certificate_of g.task.facts certificate ≡ Ok (Forward clauses)) × IsFalseAtFirst g.task clauses k × (text ≡ text_of (ended_initial k)))

-- that, or the proof does not refute the formula
abbrev pub IsUnproved : Given → Given → List ℕ → List ℕ → List ℕ → Parts → Type 0
IsUnproved old new proof text certificate task = TellsFalseAtFirst text certificate task ⊎ IsNotRefuted old new proof text certificate task
