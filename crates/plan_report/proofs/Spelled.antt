-- The report of a plan is read as a plan file of the plan's calls: all its other lines are comments.
use Rattle.std.proofs.Common.{◌≡◌, ◌≤◌, ◌^◌, ◌+◌, ℕ, true, List, [], ◌∷◌, ◌++◌, map, length, Ok, codes, sym, subst, arith}
use Rattle.std.specs.Prelude.{IsTrue, All, decimal}
use Rattle.std.specs.List.{list_all}
use Rattle.std.proofs.lemmas.List.Elements.{All-head, All-tail}
use Rattle.report_lines.specs.Lines.{is_line, joined}
use Rattle.report_lines.specs.Horizons.{Entry, IsEntry, entry_line, is_remark}
use Rattle.report_lines.proofs.published.ReadBack.{both}
use Rattle.report_lines.proofs.published.Entries.{entry_is_line}
use Rattle.pd_sexp.specs.Bytes.{semicolon, line_feed}
use Rattle.pd_model.specs.Fits.{is_call}
use Rattle.pd_model.specs.Text.{call_text}
use Rattle.pd_model.specs.WellFormed.{IsWellFormed}
use Rattle.pd_model.specs.declared.calls.Call.{Call}
use Rattle.pd_model.specs.declared.parts.Parts.{Parts}
use Rattle.pd_plan.specs.PlanFile.{plan_file}
use Rattle.pd_plan.specs.PlanText.{SpellsAnywhere}
use Rattle.pd_plan.specs.Laws.{NothingIsSpelled, CommentsAddNone, CallsAreSpelled, SpelledAreRead}
use Rattle.grounding_defs.specs.Grounded.{Grounded}
use Rattle.grounding_defs.specs.Laws.{AreNumbers}
use Rattle.race_outcome.specs.Ends.{LineView, Planned, conflicts_in}
use Rattle.step_plans.specs.Plans.{actions_in}
use Rattle.plan_report.specs.Report.{entry_of, step_lines, action_text, calls_by_step, plan_text, last_lines, report_of}
use Rattle.plan_report.specs.Laws.{IsSmallPlan, IsSmall}
use Rattle.plan_report.proofs.Lines.{call_is, are_entries, conflicts_remark, plan_remark, step_remark}

-- what is known of texts of comments and calls, a line each
pub record Reads (p : Parts) : Type 0 where
  pub nothing : SpellsAnywhere p [] []
  pub comment : (line rest : List ℕ) (calls : List Call) → IsTrue (is_line line) → SpellsAnywhere p rest calls → SpellsAnywhere p (semicolon ∷ line ++ line_feed ∷ rest) calls
  pub call : (call : Call) (rest : List ℕ) (calls : List Call) → IsTrue (is_call p call) → SpellsAnywhere p rest calls → SpellsAnywhere p (call_text p call ++ line_feed ∷ rest) (call ∷ calls)
  pub reads : (bytes : List ℕ) (calls : List Call) → SpellsAnywhere p bytes calls → plan_file p bytes ≡ Ok calls

pub spelled_by : NothingIsSpelled → CommentsAddNone → CallsAreSpelled → SpelledAreRead → (p : Parts) → IsWellFormed p → Reads p
spelled_by nothing comment call reads p well = record { nothing = nothing p; comment = comment p; call = λ one rest calls. call p one rest calls well; reads = reads p }

module _ (p : Parts) (g : Grounded) (r : Reads p) where
  -- a line that is a remark, and begins with a semicolon
  remark_then : (line rest : List ℕ) (calls : List Call) → is_remark (semicolon ∷ line) ≡ true → SpellsAnywhere p rest calls → SpellsAnywhere p ((semicolon ∷ line) ++ line_feed ∷ rest) calls
  remark_then line rest calls is h = r.comment line rest calls (both (is_line line) _ is).0 h

  entries_then : (entries : List Entry) (others : List (List ℕ)) (calls : List Call) → All IsEntry entries → SpellsAnywhere p (joined others) calls → SpellsAnywhere p (joined (map entry_line entries ++ others)) calls
  entries_then [] others calls are h = h
  entries_then (e ∷ es) others calls are h =
      r.comment (codes " horizon " ++ (decimal e.horizon ++ (codes " " ++ (e.word ++ (codes " conflicts " ++ decimal e.conflicts))))) (joined (map entry_line es ++ others)) calls (entry_is_line e (All-head IsEntry e es are)) (entries_then es others calls (All-tail IsEntry e es are) h)

  set_then :
      (set more : List ℕ) (calls : List Call) (rest : List (List ℕ)) → ((others : List Call) → AreNumbers g others more → list_all (is_call p) others ≡ true → SpellsAnywhere p (joined rest) others)
      → AreNumbers g calls (set ++ more) → list_all (is_call p) calls ≡ true → SpellsAnywhere p (joined (map (action_text p g) set ++ rest)) calls
  set_then [] more calls rest later numbers is = later calls numbers is
  set_then (b ∷ bs) more [] rest later numbers is = absurd numbers
  set_then (b ∷ bs) more (c ∷ cs) rest later numbers is =
      let is_first = both (is_call p c) (list_all (is_call p) cs) is in
      let more_text : List ℕ = joined (map (action_text p g) bs ++ rest) in
      subst (λ (x : Call). SpellsAnywhere p (call_text p x ++ line_feed ∷ more_text) (c ∷ cs)) (sym (call_is g b c numbers.0))
      (r.call c more_text cs is_first.0 (set_then bs more cs rest later numbers.1 is_first.1))

  steps_then :
      (number : ℕ) (steps : List (List ℕ)) (calls : List Call) → number + length steps ≤ 2 ^ 64 → AreNumbers g calls (actions_in steps) → list_all (is_call p) calls ≡ true
      → SpellsAnywhere p (joined (step_lines number (calls_by_step p g steps))) calls
  steps_then number [] [] few numbers is = r.nothing
  steps_then number [] (c ∷ cs) few numbers is = absurd numbers
  steps_then number (set ∷ sets) calls few numbers is =
      remark_then (codes " step " ++ decimal number) _ calls (step_remark number (omega arith))
      (set_then set (actions_in sets) calls (step_lines (number + 1) (calls_by_step p g sets)) (λ others n i. steps_then (number + 1) sets others (omega arith) n i) numbers is)

  text_spelled :
      (horizon : ℕ) (steps : List (List ℕ)) (calls : List Call) → IsSmallPlan horizon steps → AreNumbers g calls (actions_in steps) → list_all (is_call p) calls ≡ true
      → SpellsAnywhere p (plan_text p g horizon steps) calls
  text_spelled horizon steps calls small numbers is =
      let few = small.2 in
      remark_then (codes " plan of " ++ (decimal horizon ++ (codes " steps with " ++ (decimal (length (actions_in steps)) ++ codes " actions")))) _ calls (plan_remark horizon (length (actions_in steps)) small.0 small.1)
      (steps_then 1 steps calls (omega (arith, few)) numbers is)

  pub text_read :
      (horizon : ℕ) (steps : List (List ℕ)) (calls : List Call) → IsSmallPlan horizon steps → AreNumbers g calls (actions_in steps) → list_all (is_call p) calls ≡ true
      → plan_file p (plan_text p g horizon steps) ≡ Ok calls
  text_read horizon steps calls small numbers is = r.reads (plan_text p g horizon steps) calls (text_spelled horizon steps calls small numbers is)

  pub plan_read :
      (budget horizon : ℕ) (steps : List (List ℕ)) (lines : List LineView) (calls : List Call) → IsSmall budget (Planned horizon steps lines) → AreNumbers g calls (actions_in steps)
      → list_all (is_call p) calls ≡ true → plan_file p (report_of p g budget (Planned horizon steps lines)) ≡ Ok calls
  plan_read budget horizon steps lines calls small numbers is =
      let end_spelled = text_spelled horizon steps calls small.end numbers is in
      let all_spelled = remark_then (codes " conflicts " ++ (decimal (conflicts_in lines) ++ (codes " of " ++ decimal budget))) _ calls (conflicts_remark (conflicts_in lines) budget small.sum small.few) end_spelled in
      r.reads (report_of p g budget (Planned horizon steps lines)) calls (entries_then (map entry_of lines) (last_lines p g budget (Planned horizon steps lines)) calls (are_entries lines small.lines) all_spelled)
