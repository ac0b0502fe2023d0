-- The lines of a report.
use Rattle.std.specs.Prelude.{ℕ, ◌+◌, List, [], ◌∷◌, ◌++◌, map, length, codes, decimal}
use Rattle.report_lines.specs.Lines.{joined}
use Rattle.report_lines.specs.Horizons.{Entry, report}
use Rattle.pd_model.specs.declared.parts.Parts.{Parts}
use Rattle.pd_model.specs.Text.{call_text}
use Rattle.grounding_defs.specs.Grounded.{Grounded}
use Rattle.plan_report.specs.Listings.{call_at}
use Rattle.race_outcome.specs.Ends.{Word, WordRefuted, WordDropped, WordOpen, WordPlan, LineView, EndView, Planned, Exhausted, Unfinished, lines_in, conflicts_in}
use Rattle.step_plans.specs.Plans.{actions_in}

-- ---- horizons

-- the word for what became of a horizon
abbrev pub word_text : Word → List ℕ
word_text WordRefuted = codes "refuted"
word_text WordDropped = codes "dropped"
word_text WordOpen = codes "open"
word_text WordPlan = codes "plan"

-- what the line of a horizon says
abbrev pub entry_of : LineView → Entry
entry_of line = record { horizon = line.horizon; word = word_text line.word; conflicts = line.conflicts }

-- the conflicts of all horizons, and the budget
abbrev pub conflicts_line : ℕ → ℕ → List ℕ
conflicts_line sum budget = codes "; conflicts " ++ (decimal sum ++ (codes " of " ++ decimal budget))

-- ---- the end

-- the line that tells of a plan
abbrev pub plan_line : ℕ → ℕ → List ℕ
plan_line steps actions = codes "; plan of " ++ (decimal steps ++ (codes " steps with " ++ (decimal actions ++ codes " actions")))

-- the line that tells that the last listed horizon is refuted
abbrev pub exhausted_line : ℕ → List ℕ
exhausted_line horizon = codes "; exhausted at horizon " ++ decimal horizon

-- how the race ended
abbrev pub end_line : EndView → List ℕ
end_line (Planned horizon steps lines) = plan_line horizon (length (actions_in steps))
end_line (Exhausted horizon lines) = exhausted_line horizon
end_line (Unfinished lines) = codes "; unfinished"

-- ---- steps

-- the line above the calls of a step
abbrev pub step_line : ℕ → List ℕ
step_line number = codes "; step " ++ decimal number

-- the lines of steps with these lines under them; the first step has this number
abbrev pub step_lines : ℕ → List (List (List ℕ)) → List (List ℕ)
step_lines number [] = []
step_lines number (lines ∷ rest) = step_line number ∷ (lines ++ step_lines (number + 1) rest)

-- an action's call
abbrev pub action_text : Parts → Grounded → ℕ → List ℕ
action_text p g a = call_text p (call_at g a)

-- the calls of each step
abbrev pub calls_by_step : Parts → Grounded → List (List ℕ) → List (List (List ℕ))
calls_by_step p g steps = map (map (action_text p g)) steps

-- the lines of a plan of so many steps, and its text, where no race is told of
abbrev pub told_lines : Parts → Grounded → ℕ → List (List ℕ) → List (List ℕ)
told_lines p g horizon steps = plan_line horizon (length (actions_in steps)) ∷ step_lines 1 (calls_by_step p g steps)

-- the text of a plan where no race is told of
abbrev pub plan_text : Parts → Grounded → ℕ → List (List ℕ) → List ℕ
plan_text p g horizon steps = joined (told_lines p g horizon steps)

-- the lines of the steps of a plan
abbrev pub plan_lines : Parts → Grounded → EndView → List (List ℕ)
plan_lines p g (Planned horizon steps lines) = step_lines 1 (calls_by_step p g steps)
plan_lines p g (Exhausted horizon lines) = []
plan_lines p g (Unfinished lines) = []

-- ---- the report

-- the lines after those of the horizons
abbrev pub last_lines : Parts → Grounded → ℕ → EndView → List (List ℕ)
last_lines p g budget end = conflicts_line (conflicts_in (lines_in end)) budget ∷ (end_line end ∷ plan_lines p g end)

-- the report of a race that a budget was given to
abbrev pub report_of : Parts → Grounded → ℕ → EndView → List ℕ
report_of p g budget end = report (map entry_of (lines_in end)) (last_lines p g budget end)

-- its conflicts and its end alone
abbrev pub summary_of : ℕ → EndView → List ℕ
summary_of budget end = joined (conflicts_line (conflicts_in (lines_in end)) budget ∷ (end_line end ∷ []))
