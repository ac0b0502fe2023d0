-- What the bytes of the files of a request decide.
use Rattle.std.specs.Prelude.{◌≡◌, ◌⊎◌, ℕ, List, [], ◌∷◌, length, Ok, Err}
use Rattle.horizon_rates.specs.declared.settings.Settings.{Settings}
use Rattle.pd_model.specs.Plan.{verdict}
use Rattle.pd_model.specs.declared.calls.Call.{Call}
use Rattle.pd_model.specs.declared.calls.Verdict.{Verdict}
use Rattle.pd_model.specs.declared.calls.Verdict.TheVariants as verdicts
use Rattle.pd_model.specs.declared.parts.Parts.{Parts}
use Rattle.pd_plan.specs.Fault as plan
use Rattle.pd_plan.specs.PlanFile.{plan_file}
use Rattle.grounding_defs.specs.Grounded.{Grounded}
use Rattle.plan_report.specs.Listings.{ground_text, order_text}
use Rattle.plan_report.specs.Report.{report_of}
use Rattle.plan_report.specs.Laws.{IsSmall}
use Rattle.requests.specs.Seen.{Seen, Numbers, numbers, plans_by, checks, grounds, orders, generates, proves, verifies, batches}
use Rattle.requests.specs.declared.request.Stepping.{Stepping}
use Rattle.commands.specs.Known.{IsOrdered, HasTooMany}
use Rattle.commands.specs.Certificate.{IsSpelled}
use Rattle.commands.specs.Proved.{Proves}
use Rattle.commands.specs.Judged.{Judges}
use Rattle.commands.specs.declared.prove.Proved.{Proved}
use Rattle.commands.specs.declared.prove.Proved.TheVariants as proved
use Rattle.commands.specs.declared.verify.Judged.{Judged}
use Rattle.commands.specs.declared.verify.Judged.TheVariants as judged
use Rattle.clause_base.specs.declared.log.Entry.{Entry}
use Rattle.proof_log.specs.Place.{IsUnfitAt}
use Rattle.commands.specs.Stepping.{places_by, is_plan_by}
use Rattle.commands.specs.Tasks.{OnceRead, OnceGrounded, TellsOver, IsReady}
use Rattle.plan_endings.specs.declared.ending.File.TheVariants.{Plan, Proof}
use Rattle.commands.specs.Raced.{OnceRaced}
use Rattle.commands.specs.Generated.{AnswersGenerated}
use Rattle.plan_endings.specs.declared.ending.Kind.TheVariants.{Syntax, Unknown, Arity, Mistyped}
use Rattle.plan_endings.specs.declared.ending.Ending.{Ending}
use Rattle.plan_endings.specs.declared.ending.Ending.TheVariants.{Listing, Reaches, Blocked, Short, Refused, TooLong, TooLarge, Found, Open, Accepted, Rejected, NotEmpty}

-- what a race on a ground task in these steps comes to, with its report, whose numbers are numbers of 64 bits
abbrev pub AnswersPlan : Stepping → Settings → Parts → Grounded → Ending → Type 0
AnswersPlan steps settings task g end = OnceRaced (places_by steps) (is_plan_by steps) g.task settings (IsSmall settings.budget) (report_of task g settings.budget) end

-- the facts and the actions
abbrev pub AnswersGround : Parts → Grounded → Ending → Type 0
AnswersGround task g end = end ≡ Listing (ground_text task g)

-- the actions in published order
abbrev pub AnswersOrder : Parts → Grounded → Ending → Type 0
AnswersOrder task g end =
    (clauses : List (ℕ × ℕ)) × (components : List (List ℕ)) × IsOrdered g.task clauses components × (end ≡ Listing (order_text task g components (length clauses)))

-- the ending that tells of a verdict
abbrev pub ending_of : Verdict → Ending
ending_of verdicts.Reaches = Reaches
ending_of (verdicts.Blocked index) = Blocked index
ending_of verdicts.Short = Short

-- the ending that tells of a fault of a plan file
abbrev pub refusal_of_plan : plan.Fault → Ending
refusal_of_plan (plan.syntax at) = Refused Syntax Plan at
refusal_of_plan (plan.unknown at) = Refused Unknown Plan at
refusal_of_plan (plan.arity at) = Refused Arity Plan at
refusal_of_plan (plan.mistyped at) = Refused Mistyped Plan at

-- the ending tells of the fault for which the bytes are no plan file
abbrev pub RefusesCalls : Parts → List ℕ → Ending → Type 0
RefusesCalls task bytes end = (fault : plan.Fault) × (plan_file task bytes ≡ Err fault) × (end ≡ refusal_of_plan fault)

-- what the calls of a plan file come to, or why it has none
abbrev pub AnswersCheck : Parts → List ℕ → Ending → Type 0
AnswersCheck task bytes end = ((calls : List Call) × (plan_file task bytes ≡ Ok calls) × (end ≡ ending_of (verdict task calls))) ⊎ RefusesCalls task bytes end

-- the ending that tells what the run of a horizon came to
abbrev pub ending_of_run : ℕ → Proved → Ending
ending_of_run horizon (proved.Certificate text) = Listing text
ending_of_run horizon proved.TooLong = TooLong Proof
ending_of_run horizon (proved.Plan conflicts) = Found horizon conflicts
ending_of_run horizon (proved.Open conflicts) = Open horizon conflicts

-- what the run of a horizon comes to, or that its formula is too large
pub data AnswersProve (horizon budget : ℕ) (task : Parts) (g : Grounded) (end : Ending) : Type 0 where
  not_run : (count : ℕ) → HasTooMany g.task horizon count → end ≡ TooLarge horizon count → AnswersProve horizon budget task g end
  run : (p : Proved) → Proves g.task horizon budget p → end ≡ ending_of_run horizon p → AnswersProve horizon budget task g end

-- the ending that tells what the checker says of a certificate
abbrev pub ending_of_check : ℕ → Judged → Ending
ending_of_check horizon (judged.Accepted entries) = Accepted horizon entries
ending_of_check horizon (judged.Rejected entry) = Rejected entry
ending_of_check horizon judged.NotEmpty = NotEmpty

-- what the checker says of a certificate on a ground task, or that the formula of its horizon is too large
pub data AnswersProof (horizon : ℕ) (log : List Entry) (g : Grounded) (end : Ending) : Type 0 where
  not_checked : (count : ℕ) → HasTooMany g.task horizon count → end ≡ TooLarge horizon count → AnswersProof horizon log g end
  checked : (j : Judged) → Judges g.task horizon log j → end ≡ ending_of_check horizon j → AnswersProof horizon log g end

-- the ending tells where the bytes are no certificate
abbrev pub RefusesProof : List ℕ → Ending → Type 0
RefusesProof bytes end = (at : ℕ) × IsUnfitAt bytes at × (end ≡ Refused Syntax Proof at)

-- what a certificate file comes to: it is none, the task is past a limit, or the checker says so of it
pub data AnswersVerify (task : Parts) (bytes : List ℕ) (end : Ending) : Type 0 where
  unfit : RefusesProof bytes end → AnswersVerify task bytes end
  beyond : (horizon : ℕ) (log : List Entry) → IsSpelled bytes horizon log → TellsOver task end → AnswersVerify task bytes end
  spelled : (horizon : ℕ) (log : List Entry) (g : Grounded) → IsSpelled bytes horizon log → IsReady task g → AnswersProof horizon log g end → AnswersVerify task bytes end

-- what holds of the settings that have these numbers
abbrev pub OfSettings : Numbers → (Settings → Type 0) → Type 0
OfSettings n claim = (settings : Settings) × (numbers settings ≡ n) × claim settings

-- the claim holds of two files, or of three
abbrev pub OfTwo : List (List ℕ) → (List ℕ → List ℕ → Type 0) → Type 0
OfTwo (first ∷ second ∷ []) claim = claim first second
OfTwo files claim = ⊥

-- the claim holds of the files, which are three
abbrev pub OfThree : List (List ℕ) → (List ℕ → List ℕ → List ℕ → Type 0) → Type 0
OfThree (first ∷ second ∷ third ∷ []) claim = claim first second third
OfThree files claim = ⊥

-- what the bytes of its files decide for a request
abbrev pub Decides : Seen → List (List ℕ) → Ending → Type 0
Decides (plans_by steps d p n) files end = OfTwo files (λ domain problem. OfSettings n (λ settings. OnceGrounded domain problem (AnswersPlan steps settings) end))
Decides (grounds d p) files end = OfTwo files (λ domain problem. OnceGrounded domain problem AnswersGround end)
Decides (orders d p) files end = OfTwo files (λ domain problem. OnceGrounded domain problem AnswersOrder end)
Decides (checks d p l) files end = OfThree files (λ domain problem plan. OnceRead domain problem (λ task. AnswersCheck task plan) end)
Decides (generates kind number n show) files end = (files ≡ []) × OfSettings n (λ settings. AnswersGenerated kind number settings show end)
Decides (proves d p horizon budget) files end = OfTwo files (λ domain problem. OnceGrounded domain problem (AnswersProve horizon budget) end)
Decides (verifies d p c) files end = OfThree files (λ domain problem proof. OnceRead domain problem (λ task. AnswersVerify task proof) end)
Decides (batches d ps n t) files end = ⊥
