-- Texts that are made piece by piece.
use Rattle.std.proofs.Common.{◌≡◌, ℕ, ◌+◌, List, [], ◌∷◌, ◌++◌, map, drop, slice_get, Some, refl, sym, ap, ◌∙◌, append_assoc}
use Rattle.std.specs.List.{flat_map}
use Rattle.report_lines.specs.Lines.{joined}
use Rattle.pd_model.specs.declared.parts.Parts.{Parts}
use Rattle.grounding_defs.specs.Grounded.{Grounded}
use Rattle.report_lines.specs.Horizons.{entry_line}
use Rattle.race_outcome.specs.declared.line.Line.{Line}
use Rattle.race_outcome.specs.declared.end.RaceEnd.{RaceEnd}
use Rattle.race_outcome.specs.declared.end.RaceEnd.TheVariants as races
use Rattle.race_outcome.specs.Ends.{LineView, line_view, end_view, lines_of, lines_in, conflicts_in}
use Rattle.step_plans.proofs.published.ByPlace.{rest_at}
use Rattle.plan_report.specs.Report.{entry_of, action_text, step_line, step_lines, calls_by_step, conflicts_line, end_line, plan_lines, last_lines, report_of}
use Rattle.plan_report.proofs.Lines.{joined-append}

-- a line of one number, of two, and of two before more words
pub one_number : (t0 t1 t2 t3 a b c : List ℕ) → t1 ≡ t0 ++ a → t2 ≡ t1 ++ b → t3 ≡ t2 ++ c → t3 ≡ t0 ++ ((a ++ b) ++ c)
one_number t0 t1 t2 t3 a b c e1 e2 e3 = rw (e3, e2, e1) (simp append_assoc)

pub two_numbers : (t0 t1 t2 t3 t4 t5 a b c d e : List ℕ) → t1 ≡ t0 ++ a → t2 ≡ t1 ++ b → t3 ≡ t2 ++ c → t4 ≡ t3 ++ d → t5 ≡ t4 ++ e → t5 ≡ t0 ++ ((a ++ (b ++ (c ++ d))) ++ e)
two_numbers t0 t1 t2 t3 t4 t5 a b c d e e1 e2 e3 e4 e5 = rw (e5, e4, e3, e2, e1) (simp append_assoc)

pub two_and_words : (t0 t1 t2 t3 t4 t5 a b c d e f : List ℕ) → t1 ≡ t0 ++ a → t2 ≡ t1 ++ b → t3 ≡ t2 ++ c → t4 ≡ t3 ++ d → t5 ≡ t4 ++ (e ++ f) → t5 ≡ t0 ++ ((a ++ (b ++ (c ++ (d ++ e)))) ++ f)
two_and_words t0 t1 t2 t3 t4 t5 a b c d e f e1 e2 e3 e4 e5 = rw (e5, e4, e3, e2, e1) (simp append_assoc)

-- a line for each item
pub lines_each : {X : Type 0} (line : X → List ℕ) (xs : List X) → flat_map (λ x. joined (line x ∷ [])) xs ≡ joined (map line xs)
lines_each line [] = refl
lines_each line (x ∷ xs) = append_assoc (line x) (10 ∷ []) (flat_map (λ y. joined (line y ∷ [])) xs) ∙ ap (λ (rest : List ℕ). line x ++ 10 ∷ rest) (lines_each line xs)

-- the line of a step, and the lines under it
pub step_pushed :
    (line : List ℕ) (text : ℕ → List ℕ) (actions : List ℕ) (before one after : List ℕ) → one ≡ before ++ joined (line ∷ []) → after ≡ one ++ flat_map (λ a. joined (text a ∷ [])) actions
    → after ≡ before ++ joined (line ∷ map text actions)
step_pushed line text actions before one after first rest =
    rest ∙ ap (λ (ys : List ℕ). ys ++ flat_map (λ a. joined (text a ∷ [])) actions) first
    ∙ append_assoc before (joined (line ∷ [])) (flat_map (λ a. joined (text a ∷ [])) actions)
    ∙ ap (λ (ys : List ℕ). before ++ ys) (append_assoc line (10 ∷ []) (flat_map (λ a. joined (text a ∷ [])) actions) ∙ ap (λ (ys : List ℕ). line ++ 10 ∷ ys) (lines_each text actions))

-- the lines of steps, one more step
pub steps_next :
    (p : Parts) (g : Grounded) (steps : List (List ℕ)) (t : ℕ) (set : List ℕ) (before after : List ℕ) → slice_get steps t ≡ Some set
    → after ≡ before ++ joined (step_line (t + 1) ∷ map (action_text p g) set)
    → before ++ joined (step_lines (t + 1) (calls_by_step p g (drop t steps))) ≡ after ++ joined (step_lines (t + 1 + 1) (calls_by_step p g (drop (t + 1) steps)))
steps_next p g steps t set before after at is =
    ap (λ (ss : List (List ℕ)). before ++ joined (step_lines (t + 1) (calls_by_step p g ss))) (rest_at steps t set at)
    ∙ ap (λ (ys : List ℕ). before ++ ys) (joined-append (step_line (t + 1) ∷ map (action_text p g) set) (step_lines (t + 1 + 1) (calls_by_step p g (drop (t + 1) steps))))
    ∙ sym (append_assoc before (joined (step_line (t + 1) ∷ map (action_text p g) set)) _)
    ∙ ap (λ (ys : List ℕ). ys ++ joined (step_lines (t + 1 + 1) (calls_by_step p g (drop (t + 1) steps)))) (sym is)

-- ---- a whole report

-- the lines of an end are those of its values
pub lines_viewed : (race : RaceEnd) → lines_in (end_view race) ≡ map line_view (lines_of race)
lines_viewed (races.Plan horizon steps lines) = refl
lines_viewed (races.Exhausted horizon lines) = refl
lines_viewed (races.Unfinished lines) = refl

entries_made : (lines : List Line) → map (λ (l : Line). entry_line (entry_of (line_view l))) lines ≡ map entry_line (map entry_of (map line_view lines))
entries_made [] = refl
entries_made (l ∷ ls) = ap (λ (rest : List (List ℕ)). entry_line (entry_of (line_view l)) ∷ rest) (entries_made ls)

pieces_joined : (a b c p : List ℕ) → ((a ++ (b ++ 10 ∷ [])) ++ (c ++ 10 ∷ [])) ++ p ≡ a ++ (b ++ 10 ∷ (c ++ 10 ∷ p))
pieces_joined a b c p = simp append_assoc

pub report_made :
    (p : Parts) (g : Grounded) (budget sum : ℕ) (race : RaceEnd) (lines : List Line) (t0 t1 t2 t3 t4 : List ℕ) → lines ≡ lines_of race → sum ≡ conflicts_in (map line_view lines) → t0 ≡ []
    → t1 ≡ t0 ++ flat_map (λ l. joined (entry_line (entry_of (line_view l)) ∷ [])) lines → t2 ≡ t1 ++ joined (conflicts_line sum budget ∷ []) → t3 ≡ t2 ++ joined (end_line (end_view race) ∷ [])
    → t4 ≡ t3 ++ joined (plan_lines p g (end_view race)) → t4 ≡ report_of p g budget (end_view race)
report_made p g budget sum race lines t0 t1 t2 t3 t4 are sum_is none e1 e2 e3 e4 =
    let entries : List (List ℕ) = map entry_line (map entry_of (lines_in (end_view race))) in
    let same : map line_view lines ≡ lines_in (end_view race) = ap (map line_view) are ∙ sym (lines_viewed race) in
    let first : t1 ≡ joined entries = e1 ∙ ap (λ (ys : List ℕ). ys ++ flat_map (λ l. joined (entry_line (entry_of (line_view l)) ∷ [])) lines) none
    ∙ lines_each (λ (l : Line). entry_line (entry_of (line_view l))) lines ∙ ap joined (entries_made lines) ∙ ap (λ (ls : List LineView). joined (map entry_line (map entry_of ls))) same in
    let total : sum ≡ conflicts_in (lines_in (end_view race)) = sum_is ∙ ap conflicts_in same in
    let next : t2 ≡ joined entries ++ joined (conflicts_line (conflicts_in (lines_in (end_view race))) budget ∷ []) =
    e2 ∙ ap (λ (ys : List ℕ). ys ++ joined (conflicts_line sum budget ∷ [])) first ∙ ap (λ (n : ℕ). joined entries ++ joined (conflicts_line n budget ∷ [])) total in
    e4 ∙ ap (λ (ys : List ℕ). ys ++ joined (plan_lines p g (end_view race))) (e3 ∙ ap (λ (ys : List ℕ). ys ++ joined (end_line (end_view race) ∷ [])) next)
    ∙ pieces_joined (joined entries) (conflicts_line (conflicts_in (lines_in (end_view race))) budget) (end_line (end_view race)) (joined (plan_lines p g (end_view race)))
    ∙ sym (joined-append entries (last_lines p g budget (end_view race)))
