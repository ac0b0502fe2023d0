-- What a report and a checked plan promise of the files.
use Rattle.std.specs.List.{AllByRecursion, AllZip}
use Rattle.std.specs.Prelude.{◌≡◌, ℕ, ◌+◌, List, [], ◌∷◌, ◌++◌, map, length, codes, IsTrue, Option, Some, Ok, Contains}
use Rattle.pl_io.specs.Outside.{Heard, whole}
use Rattle.report_lines.specs.Lines.{lines_of}
use Rattle.report_lines.specs.Horizons.{Entry, Says, is_word, entry_line, report}
use Rattle.clause_base.specs.Choice.{Known}
use Rattle.clause_base.specs.Formula.{Cnf}
use Rattle.clause_base.specs.Derivation.{IsRefutation}
use Rattle.cdcl_defs.specs.declared.standing.Standing.{Standing}
use Rattle.cdcl_defs.specs.declared.standing.Standing.TheVariants.{Going, Found, Refuted}
use Rattle.horizon_run.specs.Run.{reached}
use Rattle.pd_model.specs.Plan.{IsPlan}
use Rattle.pd_model.specs.declared.calls.Call.{Call}
use Rattle.pd_model.specs.declared.parts.Parts.{Parts}
use Rattle.pd_plan.specs.PlanFile.{plan_file}
use Rattle.gt_core.specs.Literal.{is_in}
use Rattle.gt_core.specs.AllStep.{HasMembersOnce}
use Rattle.gt_core.specs.Published.{order_of}
use Rattle.grounding_defs.specs.Grounded.{Grounded, IsGrounded}
use Rattle.grounding_defs.specs.Laws.{AreNumbers}
use Rattle.plan_report.specs.Listings.{ground_text, order_text}
use Rattle.race_outcome.specs.Ends.{Word, WordRefuted, WordDropped, WordOpen, WordPlan}
use Rattle.step_plans.specs.Plans.{actions_in}
use Rattle.plan_report.specs.Report.{word_text, plan_line, exhausted_line, conflicts_line, calls_by_step}
use Rattle.plan_report.specs.Laws.{TellsSteps}
use Rattle.requests.specs.Seen.{Numbers, plans_by}
use Rattle.requests.specs.Requested.{requested}
use Rattle.requests.specs.declared.request.Stepping.{Stepping}
use Rattle.requests.specs.declared.request.Stepping.TheVariants.{Exists}
use Rattle.commands.specs.Known.{IsOrdered, form_of, choice_at, formula_at}
use Rattle.commands.specs.Certificate.{IsCertificate}
use Rattle.proof_log.specs.Text.{spaced, horizon_words}
use Rattle.step_laws.specs.Form.{AreSets}
use Rattle.formula_defs.specs.Variables.{chain_places}
use Rattle.horizon_rates.specs.Horizons.{IsLastListed}
use Rattle.commands.specs.Answers.{OfSettings}
use Rattle.commands.specs.Stepping.{places_by, is_plan_by}
use Rattle.commands.specs.Tasks.{AreTask}
pub use Rattle.plan_tasks.specs.Claims.{Printed, OfFiles, OfGrounded, HasAtLeast, NoStepPlan, NoPlan}
pub use Rattle.plan_tasks.specs.ToldPlans.{PlanRuns}

-- what was handed over in between is two files that are a task, and a third file, of whose bytes the claim holds too
abbrev pub OfThreeFiles : List Heard → List Heard → List ℕ → List ℕ → List ℕ → (List ℕ → Parts → Type 0) → Type 0
OfThreeFiles old new domain problem other claim =
    (first second third : List ℕ) × (new ≡ old ++ whole domain first ∷ whole problem second ∷ whole other third ∷ [])
    × (task : Parts) × AreTask first second task × claim third task

-- What is promised of a text that was printed for words that ask for a plan: of its steps, the text and the numbers, and of claims on
-- the task of its files.
abbrev pub OfPlans : List (List ℕ) → List Heard → List Heard → Option (List ℕ) → Option (List ℕ) → (Stepping → List ℕ → Numbers → ((Parts → Type 0) → Type 0) → Type 0) → Type 0
OfPlans words was now old new promise =
    (how : Stepping) (text domain problem : List ℕ) (numbers : Numbers) → Printed old new text → requested words ≡ Some (plans_by how domain problem numbers)
    → promise how text numbers (OfFiles was now domain problem)

-- ---- plans

-- each list has the members of the set at its place, in some order
abbrev pub AreOrders : List (List ℕ) → List (List ℕ) → Type 0
AreOrders steps lists = AllZip (λ set list. HasMembersOnce (is_in set) list) steps lists

-- The text has the calls of these steps, and in every order within their steps the calls are a plan.
abbrev pub RunInEveryOrder : List ℕ → Parts → Grounded → Type 0
RunInEveryOrder text task g =
    (steps : List (List ℕ)) × TellsSteps text (calls_by_step task g steps)
    × ((lists : List (List ℕ)) → AreOrders steps lists → (calls : List Call) × AreNumbers g calls (actions_in lists) × IsPlan task calls)

-- the same of a task
abbrev pub EveryOrderRuns : List ℕ → Parts → Type 0
EveryOrderRuns text task = OfGrounded task (λ g clauses components. RunInEveryOrder text task g)

-- there is a plan in these steps that has so many
abbrev pub HasPlanOf : Stepping → ℕ → Parts → Type 0
HasPlanOf how n task = OfGrounded task (λ g clauses components. (steps : List (List ℕ)) × AreSets (is_plan_by how) g.task (order_of components) steps n)

-- ---- horizons

-- The text says that this is the horizon up to which the race went, that it is refuted, and it is the last horizon that is listed for
-- these numbers.
pub record TellsExhausted (text : List ℕ) (numbers : Numbers) : Type 0 where
  pub horizon : ℕ
  pub conflicts : ℕ
  pub told : Contains (lines_of text) (exhausted_line horizon)
  pub refuted : Says text horizon (codes "refuted") conflicts
  pub listed_last : OfSettings numbers (λ settings. IsLastListed settings.rates horizon)

-- how the solver of a horizon stands where a line has this word
abbrev pub standing_of : Word → Standing
standing_of WordRefuted = Refuted
standing_of WordDropped = Going
standing_of WordOpen = Going
standing_of WordPlan = Found

-- A line is so of a solver that decides by a choice over a formula: its state after the line's conflicts has exactly so many
-- and stands as the word says, and the log of a refuted one is a derivation of the empty clause from the formula.
pub record IsSo (choose : Known → Option ℕ) (formula : Cnf) (word : List ℕ) (conflicts : ℕ) : Type 0 where
  pub word_is : Word
  pub told : word ≡ word_text word_is
  pub exactly : (reached choose formula conflicts).conflicts ≡ conflicts
  pub stands : (reached choose formula conflicts).standing ≡ standing_of word_is
  pub derived : word_is ≡ WordRefuted → IsRefutation formula.variables formula.clauses (reached choose formula conflicts).log

-- the same of a horizon of a task
abbrev pub LineIsSo : Stepping → ℕ → List ℕ → ℕ → Parts → Type 0
LineIsSo how horizon word conflicts task =
    OfGrounded task (λ g clauses components. IsSo (choice_at (places_by how) (form_of g.task clauses components) horizon) (formula_at (places_by how) (form_of g.task clauses components) horizon) word conflicts)

-- ---- the budget

-- the conflicts of entries
abbrev pub conflicts_of : List Entry → ℕ
conflicts_of [] = 0
conflicts_of (e ∷ es) = e.conflicts + conflicts_of es

-- the words of the lines of horizons
abbrev pub line_words : List (List ℕ)
line_words = codes "refuted" ∷ codes "dropped" ∷ codes "open" ∷ codes "plan" ∷ []

-- the text is the lines of some horizons, each with one of the four words, whose conflicts are the budget, the line that says so,
-- and `; unfinished`
pub record SpendsAll (text : List ℕ) (budget : ℕ) : Type 0 where
  pub entries : List Entry
  pub words : AllByRecursion (λ e. Contains line_words e.word) entries
  pub whole : text ≡ report entries (conflicts_line budget budget ∷ codes "; unfinished" ∷ [])
  pub lines : lines_of text ≡ map entry_line entries ++ (conflicts_line budget budget ∷ codes "; unfinished" ∷ [])
  pub sum : conflicts_of entries ≡ budget

-- ---- batches

-- What `plan` promises of its text holds of a part of a batch, of whose domain and problem this was handed over.
pub record PartIsSo (domain problem : List ℕ) (numbers : Numbers) (first other : Heard) (text : List ℕ) (status : ℕ) : Type 0 where
  pub plan_runs : status ≡ 0 → OfFiles [] (first ∷ other ∷ []) domain problem (PlanRuns Exists text)
  pub found_steps : (horizon conflicts : ℕ) → Says text horizon (codes "plan") conflicts → OfFiles [] (first ∷ other ∷ []) domain problem (HasPlanOf Exists horizon)
  pub refuted_steps : (horizon conflicts : ℕ) → Says text horizon (codes "refuted") conflicts → OfFiles [] (first ∷ other ∷ []) domain problem (NoStepPlan Exists horizon)
  pub refuted_plans : (horizon conflicts : ℕ) → Says text horizon (codes "refuted") conflicts → OfFiles [] (first ∷ other ∷ []) domain problem (NoPlan horizon)
  pub least :
      (horizon conflicts actions : ℕ) → Contains (lines_of text) (plan_line (horizon + 1) actions) → Says text horizon (codes "refuted") conflicts
      → OfFiles [] (first ∷ other ∷ []) domain problem (HasAtLeast Exists (horizon + 1))
  pub exhausted : status ≡ 1 → OfFiles [] (first ∷ other ∷ []) domain problem (λ task. TellsExhausted text numbers)
  pub unfinished : status ≡ 2 → OfFiles [] (first ∷ other ∷ []) domain problem (λ task. SpendsAll text numbers.budget)
  pub lines : (horizon conflicts : ℕ) (word : List ℕ) → IsTrue (is_word word) → Says text horizon word conflicts → OfFiles [] (first ∷ other ∷ []) domain problem (LineIsSo Exists horizon word conflicts)

-- ---- certificates

-- the text is a certificate that a horizon of the task has no plan
abbrev pub Certifies : List ℕ → ℕ → Parts → Type 0
Certifies text horizon task = OfGrounded task (λ g clauses components. IsCertificate (formula_at chain_places (form_of g.task clauses components)) text horizon)

-- the text is a certificate for no horizon of the task
abbrev pub CertifiesNothing : List ℕ → Parts → Type 0
CertifiesNothing text task = OfGrounded task (λ g clauses components. (horizon : ℕ) → IsCertificate (formula_at chain_places (form_of g.task clauses components)) text horizon → ⊥)

-- the first line of the text is `horizon N`
abbrev pub IsOfHorizon : List ℕ → ℕ → Type 0
IsOfHorizon text horizon = (rest : List (List ℕ)) × (lines_of text ≡ spaced (horizon_words horizon) ∷ rest)

-- the text names a horizon that has no step plan of so many steps, nor of fewer, and no plan of at most so many actions
abbrev pub ProvesNone : List ℕ → Parts → Type 0
ProvesNone text task = (horizon : ℕ) × IsOfHorizon text horizon × NoStepPlan Exists horizon task × NoPlan horizon task

-- ---- the other commands

-- the bytes are a plan file whose calls are a plan
abbrev pub AreCallsOfPlan : List ℕ → Parts → Type 0
AreCallsOfPlan text task = (calls : List Call) × (plan_file task text ≡ Ok calls) × IsPlan task calls

-- the bytes are a plan file whose calls are no plan
abbrev pub AreCallsOfNoPlan : List ℕ → Parts → Type 0
AreCallsOfNoPlan text task = (calls : List Call) × (plan_file task text ≡ Ok calls) × (IsPlan task calls → ⊥)

-- the text has the facts and the actions of a task
abbrev pub TellsGround : List ℕ → Parts → Type 0
TellsGround text task = (g : Grounded) × IsGrounded task g × (text ≡ ground_text task g)

-- the text has the actions of a task in published order
abbrev pub TellsOrder : List ℕ → Parts → Type 0
TellsOrder text task =
    (g : Grounded) × (clauses : List (ℕ × ℕ)) × (components : List (List ℕ)) × IsGrounded task g × IsOrdered g.task clauses components × (text ≡ order_text task g components (length clauses))
