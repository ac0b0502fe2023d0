-- What a domain and a problem, and a proof, come to for the judge.
use Rattle.std.specs.Prelude.{◌≡◌, ◌≢◌, ◌<◌, ℕ, Bool, List, [], ◌∷◌, ◌++◌, codes, Result}
use Rattle.std.specs.List.{AllByRecursion}
use Rattle.clause_base.specs.Formula.{Cnf, IsModel, IsUnsatisfiable, assignment_of}
use Rattle.sat_text.specs.Dimacs.{formula_text}
use Rattle.gt_core.specs.Task.{Task}
use Rattle.gt_core.specs.Published.{order_of}
use Rattle.grounding_defs.specs.Grounded.{Grounded}
use Rattle.pd_model.specs.declared.parts.Parts.{Parts}
use Rattle.pl_io.specs.Outside.{Rose}
use Rattle.pl_io.specs.Tape as tapes
use Rattle.pl_io.specs.declared.tape.Reading.TheVariants.{Lost}
use Rattle.step_laws.specs.Form.{OrderedTask, AreSets, steps_at}
use Rattle.step_encoding.specs.Limits.{most_literals}
use Rattle.step_encoding.specs.Numbers.{literals_of}
use Rattle.step_plans.specs.Known.{IsOrdered, form_of, formula_at}
use Rattle.sat_text.specs.FirstFalse.{IsFirstFalse}
use Rattle.sat_text.specs.Values.{Reading, Values as values_read, model_of, refused_by}
use Rattle.sat_text.specs.declared.value_reader.Refused.TheVariants as refused
use Rattle.plan_report.specs.Report.{plan_text}
use Rattle.plan_report.specs.Laws.{IsSmallPlan}
use Rattle.proof_verdict.specs.Verdict.{TapeRun, IsUnread, IsVerdictOn}
use Rattle.lrat_judge.specs.declared.verdict.Verdict.{Verdict}
use Rattle.lrat_judge.specs.declared.verdict.Verdict.TheVariants as verdicts
use Rattle.requests.specs.declared.request.Stepping.{Stepping}
use Rattle.requests.specs.declared.request.Stepping.TheVariants.{Exists, All}
use Rattle.plan_endings.specs.declared.ending.Ending.{Ending}
use Rattle.plan_endings.specs.declared.ending.Ending.TheVariants.{Listing, TooLarge, NotEmpty}
use Rattle.plan_endings.specs.Ends as ends
use Rattle.plan_endings.specs.declared.stop.Stop.{Stop}
use Rattle.plan_tasks.specs.Stepping.{places_by, is_plan_by}
use Rattle.plan_tasks.specs.Tasks.{AreTask, IsReady, StopsTask}
use Rattle.judge_top.specs.declared.answer.Open.{Open}
use Rattle.judge_top.specs.declared.answer.Open.TheVariants as opens
use Rattle.judge_top.specs.declared.ended.Ended.{Ended}
use Rattle.judge_top.specs.declared.ended.Ended.TheVariants.{Plain, Refuted, Rejected, TooLong, Syntax, NoModel, NoText, Unread}
use Rattle.judge_top.specs.declared.model.Given.{Given}
use Rattle.judge_top.specs.declared.model.Given.TheVariants as given
use Rattle.judge_top.specs.declared.model.Told.{Told}
use Rattle.judge_top.specs.declared.model.Told.TheVariants as told

-- the ending, answered or handed on as one that all programs have, is of this kind; of want of memory nothing is said
abbrev pub EndsWith : (Ended → Type 0) → Result Ended Stop → Type 0
EndsWith claim result = ends.EndsWith Plain claim result

-- a formula, of this horizon, has too many literals, of which the ending tells
abbrev pub IsTooMany : Cnf → ℕ → Ending → Type 0
IsTooMany formula horizon end = (count : ℕ) × (end ≡ TooLarge horizon count) × (most_literals < count) × (count ≡ literals_of formula)

-- the claim holds of a task with what is known of it and its order
pub record OfKnown (task : Task) (claim : OrderedTask → Type 0) : Type 0 where
  pub clauses : List (ℕ × ℕ)
  pub components : List (List ℕ)
  pub ordered : IsOrdered task clauses components
  pub holds : claim (form_of task clauses components)

-- where the chains of the formulas go
module _ (places : Task → List (List ℕ) → List (List ℕ × ℕ)) where
  -- the formula of a horizon has too many literals, of which the ending tells
  abbrev pub TellsTooMany : ℕ → Task → Ending → Type 0
  TellsTooMany horizon task end =
      (count : ℕ) × (end ≡ TooLarge horizon count) × OfKnown task (λ form. (most_literals < count) × (count ≡ literals_of (formula_at places form horizon)))

  -- this is the formula of a horizon; where nothing satisfies it, no lists of actions are a plan of so many steps
  abbrev pub IsFormula : (Task → List ℕ → (ℕ → ℕ → Bool) → ℕ → Type 0) → ℕ → Cnf → OrderedTask → Type 0
  IsFormula is_plan horizon formula form =
      (formula ≡ formula_at places form horizon)
      × (IsUnsatisfiable formula.clauses → (steps : List (List ℕ)) → AreSets is_plan form.task (order_of form.components) steps horizon → ⊥)

-- the word for a kind of steps
abbrev pub word_of : Stepping → List ℕ
word_of Exists = codes "exists"
word_of All = codes "all"

-- What two files come to that are grounded: they are refused or past a limit, or a task and what it is grounded to, of which the
-- answer is this.
pub data OnceReady (domain problem : List ℕ) (answers : Parts → Grounded → Ended → Type 0) (end : Ended) : Type 0 where
  not_ready : (plain : Ending) → StopsTask domain problem plain → end ≡ Plain plain → OnceReady domain problem answers end
  ready : (task : Parts) (g : Grounded) → AreTask domain problem task → IsReady task g → answers task g end → OnceReady domain problem answers end

-- what the formula of a horizon comes to: it is past the limit, or its text is told
pub data AnswersFormula (how : Stepping) (horizon : ℕ) (task : Parts) (g : Grounded) (end : Ended) : Type 0 where
  too_large : (plain : Ending) → TellsTooMany (places_by how) horizon g.task plain → end ≡ Plain plain → AnswersFormula how horizon task g end
  formula : OfKnown g.task (λ form. end ≡ Plain (Listing (formula_text (word_of how) horizon (formula_at (places_by how) form horizon)))) → AnswersFormula how horizon task g end

-- how a run ends with a verdict
abbrev pub ended_by : ℕ → Verdict → Ended
ended_by horizon (verdicts.Refuted entries) = Refuted horizon entries
ended_by horizon (verdicts.Rejected line) = Rejected line
ended_by horizon (verdicts.Syntax at) = Syntax at
ended_by horizon (verdicts.TooLong line) = TooLong line
ended_by horizon _ = Plain NotEmpty

-- no lists of actions are a plan of so many steps
abbrev pub HasNone : Stepping → ℕ → OrderedTask → Type 0
HasNone how horizon form = (steps : List (List ℕ)) → AreSets (is_plan_by how) form.task (order_of form.components) steps horizon → ⊥

-- the same for the formula of a horizon
abbrev pub IsVerdict : Stepping → ℕ → tapes.Given → Verdict → OrderedTask → Type 0
IsVerdict how horizon given verdict form = IsVerdictOn (formula_at (places_by how) form horizon) given verdict

-- what the proof on the tape comes to: the formula is past the limit, the proof could not be read, or this is the verdict on it; where
-- that is a refutation there is no plan of so many steps
pub data AnswersJudge (how : Stepping) (horizon : ℕ) (tape : TapeRun) (task : Parts) (g : Grounded) (end : Ended) : Type 0 where
  too_large : (plain : Ending) → TellsTooMany (places_by how) horizon g.task plain → end ≡ Plain plain → AnswersJudge how horizon tape task g end
  unread : (plain : Ending) → IsUnread tape.faults tape.rises plain → end ≡ Plain plain → AnswersJudge how horizon tape task g end
  judged : (verdict : Verdict) → end ≡ ended_by horizon verdict → OfKnown g.task (IsVerdict how horizon tape.given verdict) → ((entries : ℕ) → verdict ≡ verdicts.Refuted entries → OfKnown g.task (HasNone how horizon))
      → AnswersJudge how horizon tape task g end

-- ---- models

-- no call that read the file failed, and the bytes of the whole file, whatever these are past those that were handed over, are read as this
pub record IsReadAs (variables : ℕ) (given : tapes.Given) (reading : Reading) : Type 0 where
  pub sound : given.reading ≢ Lost
  pub is : (file : List ℕ) → tapes.IsFileOf given file → model_of variables file ≡ reading

-- what was read of a model's text, of the values of so many variables
abbrev pub IsGiven : ℕ → TapeRun → Given → Type 0
IsGiven variables tape given.Unread = Rose tape.faults tape.rises
IsGiven variables tape (given.Refused refusal) = IsReadAs variables tape.given (refused_by refusal)
IsGiven variables tape (given.Values reader) = IsReadAs variables tape.given (values_read reader.table.truths)

-- What was made of a model's text, over a formula, where values stand for these steps: it could not be read; it is none; its values leave
-- a clause untrue, and this is the first; or they are a model, and these are the steps that it stands for.
abbrev pub IsToldOf : Cnf → (List Bool → List (List ℕ)) → TapeRun → Told → Type 0
IsToldOf cnf stands tape told.Unread = Rose tape.faults tape.rises
IsToldOf cnf stands tape (told.Refused refusal) = IsReadAs cnf.variables tape.given (refused_by refusal)
IsToldOf cnf stands tape (told.NoModel clause) = (values : List Bool) × IsReadAs cnf.variables tape.given (values_read values) × IsFirstFalse (assignment_of values) cnf.clauses clause
IsToldOf cnf stands tape (told.Plan steps) = (values : List Bool) × IsReadAs cnf.variables tape.given (values_read values) × IsModel cnf values × (steps ≡ stands values)

-- the same over the formula of a horizon
abbrev pub IsTold : (Task → List (List ℕ) → List (List ℕ × ℕ)) → ℕ → TapeRun → Told → OrderedTask → Type 0
IsTold places horizon tape said form = IsToldOf (formula_at places form horizon) (λ values. steps_at form (places form.task form.components) horizon (assignment_of values)) tape said

-- the actions of its steps, where there are such, are below a number
abbrev pub IsBelow : ℕ → Told → Type 0
IsBelow n (told.Plan steps) = AllByRecursion (λ set. AllByRecursion (λ a. a < n) set) steps
IsBelow n _ = Unit {0}

-- the numbers of its text, where it is a plan, are numbers of 64 bits
abbrev pub IsSmallTold : ℕ → Told → Type 0
IsSmallTold horizon (told.Plan steps) = IsSmallPlan horizon steps
IsSmallTold horizon _ = Unit {0}

-- how a run ends with it: steps are told as a plan
abbrev pub ended_with : Parts → Grounded → ℕ → Told → Ended
ended_with task g horizon told.Unread = Unread
ended_with task g horizon (told.Refused (refused.NoText at)) = NoText at
ended_with task g horizon (told.Refused (refused.LongLine line)) = TooLong line
ended_with task g horizon (told.NoModel clause) = NoModel clause
ended_with task g horizon (told.Plan steps) = Plain (Listing (plan_text task g horizon steps))

-- what the text of a model on the tape comes to: the formula is past the limit, or this was made of it
pub data AnswersModel (how : Stepping) (horizon : ℕ) (tape : TapeRun) (task : Parts) (g : Grounded) (end : Ended) : Type 0 where
  too_large : (plain : Ending) → TellsTooMany (places_by how) horizon g.task plain → end ≡ Plain plain → AnswersModel how horizon tape task g end
  model : (said : Told) → OfKnown g.task (IsTold (places_by how) horizon tape said) → IsSmallTold horizon said → end ≡ ended_with task g horizon said → AnswersModel how horizon tape task g end

-- what the file on the tape comes to, of whichever kind it is
abbrev pub AnswersOpen : Open → Stepping → ℕ → TapeRun → Parts → Grounded → Ended → Type 0
AnswersOpen opens.Proof = AnswersJudge
AnswersOpen opens.Model = AnswersModel
