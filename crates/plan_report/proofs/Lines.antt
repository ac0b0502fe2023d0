-- Joined lines, and the lines of a report: each is a line, and none but those of the horizons begins as these do.
use Rattle.std.proofs.Common.{◌≡◌, ◌<◌, ◌≤◌, ◌^◌, ◌+◌, ℕ, Bool, true, List, [], ◌∷◌, ◌++◌, map, length, get_or, slice_get, Some, codes, refl, sym, ap, subst, ◌∙◌, arith, append_assoc}
use Rattle.std.specs.Prelude.{IsTrue, All, decimal}
use Rattle.std.specs.List.{list_all}
use Rattle.std.proofs.lemmas.List.Elements.{All-map}
use Rattle.std.proofs.lemmas.Option.{get_or_from_slice_get}
use Rattle.report_lines.specs.Lines.{is_line, joined}
use Rattle.report_lines.specs.Horizons.{IsEntry, is_word, is_remark}
use Rattle.report_lines.proofs.published.ReadBack.{both}
use Rattle.report_lines.proofs.published.Entries.{line-append, word_line, decimal_word}
use Rattle.pd_sexp.specs.Bytes.{open_paren}
use Rattle.pd_model.specs.Fits.{is_call}
use Rattle.pd_model.specs.Text.{call_text}
use Rattle.pd_model.specs.declared.calls.Call.{Call}
use Rattle.pd_model.specs.declared.parts.Parts.{Parts}
use Rattle.grounding_defs.specs.Grounded.{Grounded}
use Rattle.grounding_defs.specs.Laws.{AreNumbers}
use Rattle.plan_report.specs.Listings.{call_at}
use Rattle.race_outcome.specs.Ends.{Word, WordRefuted, WordDropped, WordOpen, WordPlan, LineView, EndView, Planned, Exhausted, Unfinished, lines_in, conflicts_in}
use Rattle.step_plans.specs.Plans.{actions_in}
use Rattle.plan_report.specs.Report.{word_text, entry_of, conflicts_line, plan_line, exhausted_line, end_line, step_line, step_lines, action_text, calls_by_step, plan_lines, last_lines}
use Rattle.plan_report.specs.Laws.{AreSmall, IsSmallEnd, IsSmall, HasCalls}

-- ---- joined lines

pub joined-append : (xs ys : List (List ℕ)) → joined (xs ++ ys) ≡ joined xs ++ joined ys
joined-append [] ys = refl
joined-append (x ∷ xs) ys = ap (λ (rest : List ℕ). x ++ 10 ∷ rest) (joined-append xs ys) ∙ sym (append_assoc x (10 ∷ joined xs) (joined ys))

pub all_append : {X : Type 0} (p : X → Bool) (xs ys : List X) → list_all p xs ≡ true → list_all p ys ≡ true → list_all p (xs ++ ys) ≡ true
all_append p [] ys h k = k
all_append p (x ∷ xs) ys h k = let b = both (p x) (list_all p xs) h in rw b.0 (all_append p xs ys b.1 k)

-- ---- lines of numbers

decimal_line : (n : ℕ) → n < 2 ^ 64 → is_line (decimal n) ≡ true
decimal_line n small = word_line (decimal n) (decimal_word n small)

then_codes : (xs ys : List ℕ) → is_line xs ≡ true → is_line ys ≡ true → is_line (xs ++ ys) ≡ true
then_codes xs ys p q = line-append xs ys p q

pub conflicts_remark : (sum budget : ℕ) → sum < 2 ^ 64 → budget < 2 ^ 64 → is_remark (conflicts_line sum budget) ≡ true
conflicts_remark sum budget s b =
    let rest = then_codes (decimal sum) (codes " of " ++ decimal budget) (decimal_line sum s) (decimal_line budget b) in
    rw rest refl

pub plan_remark : (steps actions : ℕ) → steps < 2 ^ 64 → actions < 2 ^ 64 → is_remark (plan_line steps actions) ≡ true
plan_remark steps actions s a =
    let last = then_codes (decimal actions) (codes " actions") (decimal_line actions a) refl in
    let rest : is_line (decimal steps ++ (codes " steps with " ++ (decimal actions ++ codes " actions"))) ≡ true = then_codes (decimal steps) (codes " steps with " ++ (decimal actions ++ codes " actions")) (decimal_line steps s) last in
    rw rest refl

exhausted_remark : (horizon : ℕ) → horizon < 2 ^ 64 → is_remark (exhausted_line horizon) ≡ true
exhausted_remark horizon h = rw (decimal_line horizon h) refl

pub step_remark : (number : ℕ) → number < 2 ^ 64 → is_remark (step_line number) ≡ true
step_remark number n = rw (decimal_line number n) refl

pub end_remark : (end : EndView) → IsSmallEnd end → is_remark (end_line end) ≡ true
end_remark (Planned horizon steps lines) small = plan_remark horizon (length (actions_in steps)) small.0 small.1
end_remark (Exhausted horizon lines) small = exhausted_remark horizon small
end_remark (Unfinished lines) small = refl

-- ---- calls

-- bytes that begin with a parenthesis
begins_with : (xs : List ℕ) (b : ℕ) → slice_get xs 0 ≡ Some b → (rest : List ℕ) × (xs ≡ b ∷ rest)
begins_with [] b e = absurd cc
begins_with (x ∷ xs) b e = (xs, let same : x ≡ b = cc in ap (λ (y : ℕ). y ∷ xs) same)

-- the calls of a task are lines that begin with a parenthesis
abbrev pub AreLines : Parts → Type 0
AreLines p = (call : Call) → IsTrue (is_call p call) → IsTrue (is_line (call_text p call))

abbrev pub Begin : Parts → Type 0
Begin p = (call : Call) → slice_get (call_text p call) 0 ≡ Some open_paren

call_remark : (p : Parts) → AreLines p → Begin p → (call : Call) → is_call p call ≡ true → is_remark (call_text p call) ≡ true
call_remark p are begin call is =
    let b = begins_with (call_text p call) open_paren (begin call) in
    let whole : is_line (open_paren ∷ b.0) ≡ true = subst (λ (xs : List ℕ). is_line xs ≡ true) b.1 (are call is) in
    subst (λ (xs : List ℕ). is_remark xs ≡ true) (sym b.1) (rw whole refl)

pub call_is : (g : Grounded) (n : ℕ) (call : Call) → slice_get g.calls n ≡ Some call → call_at g n ≡ call
call_is g n call at = get_or_from_slice_get g.calls n call (record { schema = 0; objects = [] }) at

-- the actions of one step, whose calls are the first of these
set_remarks :
    (p : Parts) (g : Grounded) → AreLines p → Begin p → (set more : List ℕ) (calls : List Call) (rest : List (List ℕ))
    → ((others : List Call) → AreNumbers g others more → list_all (is_call p) others ≡ true → list_all is_remark rest ≡ true)
    → AreNumbers g calls (set ++ more) → list_all (is_call p) calls ≡ true → list_all is_remark (map (action_text p g) set ++ rest) ≡ true
set_remarks p g are begin [] more calls rest later numbers is = later calls numbers is
set_remarks p g are begin (b ∷ bs) more [] rest later numbers is = absurd numbers
set_remarks p g are begin (b ∷ bs) more (c ∷ cs) rest later numbers is =
    let is_first = both (is_call p c) (list_all (is_call p) cs) is in
    let first : is_remark (action_text p g b) ≡ true = ap (λ (x : Call). is_remark (call_text p x)) (call_is g b c numbers.0) ∙ call_remark p are begin c is_first.0 in
    rw first (set_remarks p g are begin bs more cs rest later numbers.1 is_first.1)

steps_remarks :
    (p : Parts) (g : Grounded) → AreLines p → Begin p → (number : ℕ) (steps : List (List ℕ)) (calls : List Call) → number + length steps ≤ 2 ^ 64
    → AreNumbers g calls (actions_in steps) → list_all (is_call p) calls ≡ true → list_all is_remark (step_lines number (calls_by_step p g steps)) ≡ true
steps_remarks p g are begin number [] calls few numbers is = refl
steps_remarks p g are begin number (set ∷ sets) calls few numbers is =
    rw (step_remark number (omega arith))
    (set_remarks p g are begin set (actions_in sets) calls (step_lines (number + 1) (calls_by_step p g sets))
    (λ others n i. steps_remarks p g are begin (number + 1) sets others (omega arith) n i) numbers is)

pub plan_remarks : (p : Parts) (g : Grounded) → AreLines p → Begin p → (end : EndView) → IsSmallEnd end → HasCalls p g end → list_all is_remark (plan_lines p g end) ≡ true
plan_remarks p g are begin (Planned horizon steps lines) small has = steps_remarks p g are begin 1 steps has.0 (let few = small.2 in omega (arith, few)) has.1 has.2
plan_remarks p g are begin (Exhausted horizon lines) small has = refl
plan_remarks p g are begin (Unfinished lines) small has = refl

pub all_remarks : (p : Parts) (g : Grounded) → AreLines p → Begin p → (budget : ℕ) (end : EndView) → IsSmall budget end → HasCalls p g end → list_all is_remark (last_lines p g budget end) ≡ true
all_remarks p g are begin budget end small has =
    rw (conflicts_remark (conflicts_in (lines_in end)) budget small.sum small.few, end_remark end small.end, plan_remarks p g are begin end small.end has) refl

-- ---- the lines of horizons

one_word : (word : Word) → is_word (word_text word) ≡ true
one_word WordRefuted = refl
one_word WordDropped = refl
one_word WordOpen = refl
one_word WordPlan = refl

pub are_entries : (lines : List LineView) → AreSmall lines → All IsEntry (map entry_of lines)
are_entries lines small =
    All-map IsEntry entry_of lines (λ i d lt. let h = small i d lt in record { horizon_small = h.0; conflicts_small = h.1; one_word = one_word (get_or lines i d).word })
