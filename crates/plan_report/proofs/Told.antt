-- The lines of a report are read back, with the steps of a plan, and say of horizons what its end tells.
use Rattle.std.proofs.Common.{◌≡◌, ℕ, suc, true, not, List, [], ◌∷◌, ◌++◌, map, refl, sym, ap, ◌∙◌, arith, append_assoc}
use Rattle.std.specs.Prelude.{IsTrue, All, Contains}
use Rattle.std.specs.List.{list_all}
use Rattle.std.proofs.lemmas.List.Elements.{All-contains, All-cons, All-nil, All-contains_itself}
use Rattle.report_lines.specs.Lines.{lines_of}
use Rattle.report_lines.specs.Horizons.{Says, Entry, IsEntry, entry_line, is_word}
use Rattle.report_lines.specs.Laws.{LinesReadBack, ReportsSayEntries}
use Rattle.report_lines.proofs.published.Entries.{all_lines}
use Rattle.pd_model.specs.Fits.{is_call}
use Rattle.pd_model.specs.declared.calls.Call.{Call}
use Rattle.pd_model.specs.declared.parts.Parts.{Parts}
use Rattle.grounding_defs.specs.Grounded.{Grounded}
use Rattle.grounding_defs.specs.Laws.{AreNumbers}
use Rattle.race_outcome.specs.Ends.{LineView, EndView, Planned, lines_in, conflicts_in}
use Rattle.step_plans.specs.Plans.{actions_in}
use Rattle.plan_report.specs.Report.{entry_of, conflicts_line, end_line, calls_by_step, told_lines, plan_text, last_lines, report_of}
use Rattle.plan_report.specs.Laws.{IsSmallPlan, IsSmall, HasCalls, TellsSteps, Tells, is_step}
use Rattle.plan_report.proofs.Lines.{AreLines, Begin, all_append, end_remark, plan_remarks, all_remarks, are_entries}

pub read_back :
    (p : Parts) (g : Grounded) → LinesReadBack → AreLines p → Begin p → (budget : ℕ) (end : EndView) → IsSmall budget end → HasCalls p g end
    → lines_of (report_of p g budget end) ≡ map entry_line (map entry_of (lines_in end)) ++ last_lines p g budget end
read_back p g back are begin budget end small has =
    back (map entry_line (map entry_of (lines_in end)) ++ last_lines p g budget end)
    (all_lines (map entry_of (lines_in end)) (last_lines p g budget end) (are_entries (lines_in end) small.lines) (all_remarks p g are begin budget end small has))

-- the lines of a plan's text too
pub text_back :
    (p : Parts) (g : Grounded) → LinesReadBack → AreLines p → Begin p → (horizon : ℕ) (steps : List (List ℕ)) (calls : List Call) → IsSmallPlan horizon steps → AreNumbers g calls (actions_in steps)
    → list_all (is_call p) calls ≡ true → lines_of (plan_text p g horizon steps) ≡ told_lines p g horizon steps
text_back p g back are begin horizon steps calls small numbers is =
    let end : EndView = Planned horizon steps [] in
    back (told_lines p g horizon steps) (all_lines [] (told_lines p g horizon steps) (All-nil IsEntry) (rw (end_remark end small, plan_remarks p g are begin end small (calls, numbers, is)) refl))

-- ---- steps

no_steps : (entries : List Entry) → list_all (λ line. not (is_step line)) (map entry_line entries) ≡ true
no_steps [] = refl
no_steps (e ∷ es) = no_steps es

pub steps_told :
    (p : Parts) (g : Grounded) → LinesReadBack → AreLines p → Begin p → (budget horizon : ℕ) (steps : List (List ℕ)) (lines : List LineView)
    → IsSmall budget (Planned horizon steps lines) → HasCalls p g (Planned horizon steps lines)
    → TellsSteps (report_of p g budget (Planned horizon steps lines)) (calls_by_step p g steps)
steps_told p g back are begin budget horizon steps lines small has =
    let entries : List (List ℕ) = map entry_line (map entry_of lines) in
    let two : List (List ℕ) = conflicts_line (conflicts_in lines) budget ∷ (end_line (Planned horizon steps lines) ∷ []) in (
      entries ++ two,
      read_back p g back are begin budget (Planned horizon steps lines) small has ∙ sym (append_assoc entries two _),
      all_append (λ line. not (is_step line)) entries two (no_steps (map entry_of lines)) refl,
    )

-- ---- horizons

-- a line of which an entry is made is one of these
abbrev TellsEntry : List LineView → Entry → Type 0
TellsEntry lines e = (line : LineView) × Contains lines line × (entry_of line ≡ e)

entries_told : (lines all : List LineView) → All (Contains all) lines → All (TellsEntry all) (map entry_of lines)
entries_told [] all are = All-nil (TellsEntry all)
entries_told (line ∷ lines) all are =
    All-cons (TellsEntry all) (entry_of line) (map entry_of lines) (line, are 0 line (omega arith), refl) (entries_told lines all (λ i d lt. are (suc i) d (omega (arith, lt))))

pub horizons_told :
    (p : Parts) (g : Grounded) → ReportsSayEntries → AreLines p → Begin p → (budget : ℕ) (end : EndView) (horizon : ℕ) (word : List ℕ) (conflicts : ℕ)
    → IsSmall budget end → HasCalls p g end → IsTrue (is_word word) → Says (report_of p g budget end) horizon word conflicts → Tells (lines_in end) horizon word conflicts
horizons_told p g say are begin budget end horizon word conflicts small has one says =
    let lines : List LineView = lines_in end in
    let contains = say (map entry_of lines) (last_lines p g budget end) horizon word conflicts (are_entries lines small.lines) (all_remarks p g are begin budget end small has) one says in
    let told = All-contains (TellsEntry lines) (map entry_of lines) (record { horizon = horizon; word = word; conflicts = conflicts }) (entries_told lines lines (All-contains_itself lines)) contains in
    (told.0, told.1, ap (λ (e : Entry). e.horizon) told.2, ap (λ (e : Entry). e.word) told.2, ap (λ (e : Entry). e.conflicts) told.2)
