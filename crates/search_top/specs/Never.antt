-- What comes of it where it is tried to show that there is no plan of any length, and the text that tells it.
use Rattle.std.specs.Prelude.{◌≡◌, ℕ, ◌+◌, List, [], ◌∷◌, ◌++◌, Option, Some, None, Result, Ok, Err, codes, decimal, length}
use Rattle.report_lines.specs.Lines.{joined}
use Rattle.gt_core.specs.Task.{Task}
use Rattle.pd_model.specs.declared.parts.Parts.{Parts}
use Rattle.grounding_defs.specs.Grounded.{Grounded}
use Rattle.two_invariants.specs.Closed.{AreInvariants}
use Rattle.plan_report.specs.Report.{action_text}
use Rattle.never_check.specs.Exclusions.{IsExclusion}
use Rattle.never_check.specs.Verdicts.{IsForwardVerdict}
use Rattle.never_check.specs.BackwardVerdicts.{IsBackwardVerdict}
use Rattle.never_check.specs.WeightsVerdicts.{IsWeightsVerdict}
use Rattle.never_check.specs.declared.excluded.Exclusion.{Exclusion}
use Rattle.never_check.specs.declared.excluded.Exclusion.TheVariants as by
use Rattle.never_check.specs.declared.forward.ForwardVerdict.{ForwardVerdict}
use Rattle.never_check.specs.declared.forward.ForwardVerdict.TheVariants as forward
use Rattle.never_check.specs.declared.backward.BackwardVerdict.{BackwardVerdict}
use Rattle.never_check.specs.declared.backward.BackwardVerdict.TheVariants as backward
use Rattle.never_check.specs.declared.weights.WeightsVerdict.{WeightsVerdict}
use Rattle.never_check.specs.declared.weights.WeightsVerdict.TheVariants as weights
use Rattle.never_text.specs.Certificate.{Certificate, Nothing, Forward, Backward, Weights, certificate_of}
use Rattle.never_text.specs.declared.fault.Fault.{Fault}
use Rattle.search_top.specs.Hopeless.{hopeless_text}
use Rattle.search_top.specs.Literals.{literal_text}
use Rattle.search_top.specs.declared.ended.Finding.{Finding}
use Rattle.search_top.specs.declared.ended.Finding.TheVariants.{NoPlan, Rejected, Open, Refused}
use Rattle.search_top.specs.declared.ended.Ended.{Ended}
use Rattle.search_top.specs.declared.ended.Ended.TheVariants.{Shown}
use Rattle.search_top.specs.declared.judged.Judgement.{Judgement}
use Rattle.search_top.specs.declared.judged.Judgement.TheVariants as says

-- ---- without a certificate

-- the line that tells that a goal is open, or by what it is excluded
abbrev pub exclusion_line : Parts → Grounded → Exclusion → List ℕ
exclusion_line p g by.Open = codes "; open"
exclusion_line p g by.Hopeless = codes "; no plan of any length: goal " ++ (hopeless_text p g p.goal ++ codes " is never true")
exclusion_line p g (by.One l) = codes "; no plan of any length: goal " ++ (literal_text p g l ++ codes " is never true")
exclusion_line p g (by.Two l m) = codes "; no plan of any length: the goal is excluded by " ++ (literal_text p g l ++ (codes " and " ++ literal_text p g m))

-- what comes of it
abbrev pub finding_by : Exclusion → Finding
finding_by by.Open = Open
finding_by _ = NoPlan

-- how a run ends with it
abbrev pub ended_excluded : Parts → Grounded → Exclusion → Ended
ended_excluded p g by = Shown (finding_by by) (joined (exclusion_line p g by ∷ []))

-- what a task comes to without a certificate: by what the goal is excluded under its invariants
pub record AnswersNever (task : Parts) (g : Grounded) (end : Ended) : Type 0 where
  pub known : List (ℕ × ℕ)
  pub invariants : AreInvariants g.task known
  pub by : Exclusion
  pub is : IsExclusion g.task known by
  pub told : end ≡ ended_excluded task g by

-- ---- with one

-- what the verdicts on clauses and on weights say
abbrev pub said_forward : ℕ → ForwardVerdict → Judgement
said_forward count forward.Accepted = says.Clauses count
said_forward count (forward.Initial k) = says.Initial (Some k)
said_forward count forward.Goal = says.Goal None
said_forward count (forward.Pair k a) = says.Pair k a

-- the same of clauses that are read backward
abbrev pub said_backward : ℕ → BackwardVerdict → Judgement
said_backward count backward.Accepted = says.Clauses count
said_backward count backward.Initial = says.Initial None
said_backward count (backward.Goal k) = says.Goal (Some k)
said_backward count (backward.Pair k a) = says.Pair k a

-- the same of weights
abbrev pub said_weights : WeightsVerdict → Judgement
said_weights weights.Accepted = says.Weights
said_weights weights.Goal = says.Goal None
said_weights (weights.Action a) = says.Action a

-- what is said of a certificate, under clauses that are known of the states, by the check of its kind
abbrev pub IsJudged : Task → List (ℕ × ℕ) → Certificate → Judgement → Type 0
IsJudged task known Nothing said = ⊥
IsJudged task known (Forward clauses) said = (verdict : ForwardVerdict) × IsForwardVerdict task known clauses verdict × (said ≡ said_forward (length clauses) verdict)
IsJudged task known (Backward clauses) said = (verdict : BackwardVerdict) × IsBackwardVerdict task known clauses verdict × (said ≡ said_backward (length clauses) verdict)
IsJudged task known (Weights weights) said = (verdict : WeightsVerdict) × IsWeightsVerdict task known weights verdict × (said ≡ said_weights verdict)

-- what is said of the text of a certificate: where it is none, that, and where the line at fault begins
abbrev pub IsSaidOf : Task → Result Certificate (ℕ × Fault) → Judgement → Type 0
IsSaidOf task (Err fault) said = said ≡ says.Faulty fault.0
IsSaidOf task (Ok certificate) said = (known : List (ℕ × ℕ)) × AreInvariants task known × IsJudged task known certificate said

-- the number of a clause, where one is told, counted from 1
abbrev pub numbered : List ℕ → Option ℕ → List ℕ
numbered front None = front
numbered front (Some k) = front ++ (codes " " ++ decimal (k + 1))

-- the line that tells where the line at fault of a certificate begins
abbrev pub faulty_line : ℕ → List ℕ
faulty_line at = codes "; refused syntax certificate " ++ decimal at

-- the line that tells it
abbrev pub judgement_line : Parts → Grounded → Judgement → List ℕ
judgement_line p g (says.Faulty at) = faulty_line at
judgement_line p g (says.Clauses count) = codes "; no plan of any length, clauses " ++ decimal count
judgement_line p g says.Weights = codes "; no plan of any length, weights"
judgement_line p g (says.Initial clause) = numbered (codes "; rejected initial") clause
judgement_line p g (says.Goal clause) = numbered (codes "; rejected goal") clause
judgement_line p g (says.Pair clause action) = codes "; rejected clause " ++ (decimal (clause + 1) ++ (codes " action " ++ action_text p g action))
judgement_line p g (says.Action action) = codes "; rejected action " ++ action_text p g action

-- what comes of it
abbrev pub finding_of : Judgement → Finding
finding_of (says.Faulty at) = Refused
finding_of (says.Clauses count) = NoPlan
finding_of says.Weights = NoPlan
finding_of _ = Rejected

-- how a run ends with it
abbrev pub ended_judged : Parts → Grounded → Judgement → Ended
ended_judged p g said = Shown (finding_of said) (joined (judgement_line p g said ∷ []))

-- what a task and the text of a certificate come to: this is said of it
pub record AnswersCertificate (text : List ℕ) (task : Parts) (g : Grounded) (end : Ended) : Type 0 where
  pub said : Judgement
  pub is : IsSaidOf g.task (certificate_of g.task.facts text) said
  pub told : end ≡ ended_judged task g said
