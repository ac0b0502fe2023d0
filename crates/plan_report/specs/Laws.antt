-- What a reader finds in a report.
use Rattle.std.specs.Prelude.{◌≡◌, ◌<◌, ◌^◌, ℕ, List, ◌++◌, map, length, take, not, Bool, true, IsTrue, Ok, All, Contains, codes}
use Rattle.std.specs.List.{list_all, AllByRecursion}
use Rattle.std.specs.Str.{bytes_eq}
use Rattle.report_lines.specs.Lines.{lines_of}
use Rattle.report_lines.specs.Horizons.{Says, is_word, entry_line}
use Rattle.pd_model.specs.Fits.{is_call}
use Rattle.pd_model.specs.WellFormed.{IsWellFormed}
use Rattle.pd_model.specs.declared.calls.Call.{Call}
use Rattle.pd_model.specs.declared.parts.Parts.{Parts}
use Rattle.pd_plan.specs.PlanFile.{plan_file}
use Rattle.grounding_defs.specs.Grounded.{Grounded}
use Rattle.grounding_defs.specs.Laws.{AreNumbers}
use Rattle.race_outcome.specs.Ends.{LineView, EndView, Planned, Exhausted, Unfinished, lines_in, conflicts_in}
use Rattle.step_plans.specs.Plans.{actions_in}
use Rattle.plan_report.specs.Report.{word_text, entry_of, step_lines, calls_by_step, told_lines, plan_text, last_lines, report_of}

-- ---- what is known of an end

-- the actions of the steps of a plan are below a number
abbrev pub HasActionsBelow : ℕ → EndView → Type 0
HasActionsBelow n (Planned horizon steps lines) = AllByRecursion (λ set. AllByRecursion (λ a. a < n) set) steps
HasActionsBelow n (Exhausted horizon lines) = Unit {0}
HasActionsBelow n (Unfinished lines) = Unit {0}

-- the numbers of a line are numbers of 64 bits
abbrev pub IsSmallLine : LineView → Type 0
IsSmallLine line = (line.horizon < 2 ^ 64) × (line.conflicts < 2 ^ 64)

-- the numbers of each line are numbers of 64 bits
abbrev pub AreSmall : List LineView → Type 0
AreSmall lines = All IsSmallLine lines

-- so are those of a plan of so many steps
abbrev pub IsSmallPlan : ℕ → List (List ℕ) → Type 0
IsSmallPlan horizon steps = (horizon < 2 ^ 64) × (length (actions_in steps) < 2 ^ 64) × (length steps < 2 ^ 64)

-- and those of how a race ended
abbrev pub IsSmallEnd : EndView → Type 0
IsSmallEnd (Planned horizon steps lines) = IsSmallPlan horizon steps
IsSmallEnd (Exhausted horizon lines) = horizon < 2 ^ 64
IsSmallEnd (Unfinished lines) = Unit {0}

-- the numbers of a report are numbers of 64 bits
pub record IsSmall (budget : ℕ) (race : EndView) : Type 0 where
  pub few : budget < 2 ^ 64
  pub sum : conflicts_in (lines_in race) < 2 ^ 64
  pub lines : AreSmall (lines_in race)
  pub end : IsSmallEnd race

-- the actions of a plan are those of calls
abbrev pub HasCalls : Parts → Grounded → EndView → Type 0
HasCalls p g (Planned horizon steps lines) = (calls : List Call) × AreNumbers g calls (actions_in steps) × IsTrue (list_all (is_call p) calls)
HasCalls p g (Exhausted horizon lines) = Unit {0}
HasCalls p g (Unfinished lines) = Unit {0}

-- ---- laws

-- the lines of a report are read back
abbrev pub LinesAreReadBack : Type 0
LinesAreReadBack =
    (p : Parts) (g : Grounded) (budget : ℕ) (end : EndView) → IsWellFormed p → IsSmall budget end → HasCalls p g end
    → lines_of (report_of p g budget end) ≡ map entry_line (map entry_of (lines_in end)) ++ last_lines p g budget end

-- the report of a plan is a plan file of the plan's calls
abbrev pub PlansAreRead : Type 0
PlansAreRead =
    (p : Parts) (g : Grounded) (budget horizon : ℕ) (steps : List (List ℕ)) (lines : List LineView) (calls : List Call)
    → IsWellFormed p → IsSmall budget (Planned horizon steps lines) → AreNumbers g calls (actions_in steps) → IsTrue (list_all (is_call p) calls)
    → plan_file p (report_of p g budget (Planned horizon steps lines)) ≡ Ok calls

-- the line begins with `; step `
abbrev pub is_step : List ℕ → Bool
is_step line = bytes_eq (take 7 line) (codes "; step ")

-- under the lines `; step 1`, `; step 2` and so on, with which a text ends, stand these lines
abbrev pub TellsSteps : List ℕ → List (List (List ℕ)) → Type 0
TellsSteps text steps = (front : List (List ℕ)) × (lines_of text ≡ front ++ step_lines 1 steps) × IsTrue (list_all (λ line. not (is_step line)) front)

-- the report of a plan tells the calls of each step
abbrev pub StepsAreTold : Type 0
StepsAreTold =
    (p : Parts) (g : Grounded) (budget horizon : ℕ) (steps : List (List ℕ)) (lines : List LineView)
    → IsWellFormed p → IsSmall budget (Planned horizon steps lines) → HasCalls p g (Planned horizon steps lines)
    → TellsSteps (report_of p g budget (Planned horizon steps lines)) (calls_by_step p g steps)

-- the text of a plan without a race is a plan file of the plan's calls
abbrev pub PlanTextsAreRead : Type 0
PlanTextsAreRead =
    (p : Parts) (g : Grounded) (horizon : ℕ) (steps : List (List ℕ)) (calls : List Call)
    → IsWellFormed p → IsSmallPlan horizon steps → AreNumbers g calls (actions_in steps) → IsTrue (list_all (is_call p) calls)
    → plan_file p (plan_text p g horizon steps) ≡ Ok calls

-- and its lines are read back
abbrev pub PlanTextsAreReadBack : Type 0
PlanTextsAreReadBack =
    (p : Parts) (g : Grounded) (horizon : ℕ) (steps : List (List ℕ)) (calls : List Call)
    → IsWellFormed p → IsSmallPlan horizon steps → AreNumbers g calls (actions_in steps) → IsTrue (list_all (is_call p) calls)
    → lines_of (plan_text p g horizon steps) ≡ told_lines p g horizon steps

-- the lines tell this of a horizon
abbrev pub Tells : List LineView → ℕ → List ℕ → ℕ → Type 0
Tells lines horizon word conflicts =
    (line : LineView) × Contains lines line × (line.horizon ≡ horizon) × (word_text line.word ≡ word) × (line.conflicts ≡ conflicts)

-- what a report says of a horizon its end tells
abbrev pub HorizonsAreTold : Type 0
HorizonsAreTold =
    (p : Parts) (g : Grounded) (budget : ℕ) (end : EndView) (horizon : ℕ) (word : List ℕ) (conflicts : ℕ) → IsWellFormed p → IsSmall budget end → HasCalls p g end
    → IsTrue (is_word word) → Says (report_of p g budget end) horizon word conflicts → Tells (lines_in end) horizon word conflicts
