-- The lines that tell what a walk came to.
use Rattle.std.specs.Prelude.{◌<◌, ◌^◌, ℕ, List, [], ◌∷◌, ◌++◌, map, length, codes, decimal}
use Rattle.report_lines.specs.Lines.{joined}
use Rattle.pd_model.specs.declared.parts.Parts.{Parts}
use Rattle.grounding_defs.specs.Grounded.{Grounded}
use Rattle.plan_report.specs.Report.{action_text}
use Rattle.state_search.specs.declared.answer.Answer.{Answer}
use Rattle.state_search.specs.declared.answer.End.{End}
use Rattle.state_search.specs.declared.answer.End.TheVariants as ends
use Rattle.search_top.specs.declared.ended.Outcome.{Outcome}
use Rattle.search_top.specs.declared.ended.Outcome.TheVariants.{Planned, NoPlan, Unfinished}
use Rattle.search_top.specs.declared.request.How.{How}
use Rattle.search_top.specs.declared.request.How.TheVariants.{Greedy, Least}

-- what a walk came to that ended so
abbrev pub outcome_of : End → Outcome
outcome_of (ends.Plan actions) = Planned
outcome_of ends.NoPlan = NoPlan
outcome_of ends.Unfinished = Unfinished

-- how many states were entered, and how many might be
abbrev pub states_line : ℕ → ℕ → List ℕ
states_line states most = codes "; states " ++ (decimal states ++ (codes " of " ++ decimal most))

-- what comes after the number of actions
abbrev pub plan_words : How → List ℕ
plan_words Greedy = codes " actions"
plan_words Least = codes " actions, the least"

-- the line that tells of a plan
abbrev pub plan_line : How → ℕ → List ℕ
plan_line how actions = codes "; plan of " ++ (decimal actions ++ plan_words how)

-- the lines of how the walk ended: those of a plan have its calls
abbrev pub end_lines : Parts → Grounded → How → End → List (List ℕ)
end_lines p g how (ends.Plan actions) = plan_line how (length actions) ∷ map (action_text p g) actions
end_lines p g how ends.NoPlan = codes "; no plan of any length" ∷ []
end_lines p g how ends.Unfinished = codes "; unfinished" ∷ []

-- the text of what a walk came to that might enter so many states
abbrev pub report_of : Parts → Grounded → How → ℕ → Answer → List ℕ
report_of p g how most answer = joined (states_line answer.states most ∷ end_lines p g how answer.end)

-- the actions of a plan are few enough to be counted in 64 bits
abbrev pub IsSmallEnd : End → Type 0
IsSmallEnd (ends.Plan actions) = length actions < 2 ^ 64
IsSmallEnd _ = Unit {0}

-- so are the states
abbrev pub IsSmallAnswer : ℕ → Answer → Type 0
IsSmallAnswer most answer = (most < 2 ^ 64) × (answer.states < 2 ^ 64) × IsSmallEnd answer.end
