-- The lines of a report, and what a reader of plan files finds in them.
use Rattle.std.proofs.Common.{◌≡◌, ◌<◌, ◌^◌, ℕ, true, List, [], ◌∷◌, ◌++◌, map, length, Result, Ok, Err, codes, refl, sym, ap, subst, append_assoc, ◌∙◌}
use Rattle.std.specs.Prelude.{OnOk, decimal}
use Rattle.std.specs.List.{flat_map, list_all}
use Rattle.std.proofs.lemmas.Option.{get_or_from_slice_get}
use Rattle.report_lines.specs.Lines.{is_line, joined}
use Rattle.report_lines.proofs.published.ReadBack.{both}
use Rattle.report_lines.proofs.published.Entries.{line-append, word_line, decimal_word}
use Rattle.pd_sexp.specs.Bytes.{line_feed}
use Rattle.pd_model.specs.Fits.{is_call}
use Rattle.pd_model.specs.Text.{call_text}
use Rattle.pd_model.specs.WellFormed.{IsWellFormed}
use Rattle.pd_model.specs.declared.calls.Call.{Call}
use Rattle.pd_model.specs.declared.parts.Parts.{Parts}
use Rattle.pd_plan.specs.PlanFile.{plan_file}
use Rattle.pd_plan.specs.PlanText.{SpellsAnywhere}
use Rattle.grounding_defs.specs.Grounded.{Grounded}
use Rattle.grounding_defs.specs.Laws.{AreNumbers}
use Rattle.plan_report.specs.Listings.{call_at}
use Rattle.plan_report.specs.Report.{action_text}
use Rattle.search_top.specs.Laws.{TopLaws}
use Rattle.search_top.specs.Report.{states_line, plan_line, plan_words}
use Rattle.search_top.specs.declared.request.How.{How}
use Rattle.search_top.specs.declared.request.How.TheVariants.{Greedy, Least}

-- lines that are appended one by one
pub one_by_one : (line : ℕ → List ℕ) (ns : List ℕ) → flat_map (λ n. joined (line n ∷ [])) ns ≡ joined (map line ns)
one_by_one line [] = refl
one_by_one line (n ∷ ns) = append_assoc (line n) (10 ∷ []) (flat_map (λ k. joined (line k ∷ [])) ns) ∙ ap (λ (rest : List ℕ). line n ++ 10 ∷ rest) (one_by_one line ns)

-- three texts are appended, one after another
pub pushed_three : (old a b c one two new : List ℕ) → one ≡ old ++ a → two ≡ one ++ b → new ≡ two ++ c → new ≡ old ++ (a ++ (b ++ c))
pushed_three old a b c one two new first second third =
    third ∙ (ap (λ (t : List ℕ). t ++ c) (second ∙ ap (λ (t : List ℕ). t ++ b) first) ∙ (append_assoc (old ++ a) b c ∙ append_assoc old a (b ++ c)))

-- a line and then others are appended
pub lines_pushed : {X E : Type 0} (r : Result X E) (first : List ℕ) (line : ℕ → List ℕ) (ns old middle new : List ℕ) → middle ≡ old ++ joined (first ∷ [])
    → OnOk r (new ≡ middle ++ flat_map (λ n. joined (line n ∷ [])) ns) → OnOk r (new ≡ old ++ joined (first ∷ map line ns))
lines_pushed (Err e) first line ns old middle new begun h = tt
lines_pushed (Ok x) first line ns old middle new begun h =
    let rest : List ℕ = flat_map (λ n. joined (line n ∷ [])) ns in
    let all : (first ++ 10 ∷ []) ++ rest ≡ first ++ 10 ∷ joined (map line ns) = append_assoc first (10 ∷ []) rest ∙ ap (λ (t : List ℕ). first ++ 10 ∷ t) (one_by_one line ns) in
    h ∙ (ap (λ (t : List ℕ). t ++ rest) begun ∙ (append_assoc old (first ++ 10 ∷ []) rest ∙ ap (λ (t : List ℕ). old ++ t) all))

number_line : (n : ℕ) → n < 2 ^ 64 → is_line (decimal n) ≡ true
number_line n small = word_line (decimal n) (decimal_word n small)

module _ (laws : TopLaws) (p : Parts) (g : Grounded) (well : IsWellFormed p) where
  calls_spelled : (actions : List ℕ) (calls : List Call) → AreNumbers g calls actions → list_all (is_call p) calls ≡ true → SpellsAnywhere p (joined (map (action_text p g) actions)) calls
  calls_spelled [] [] numbers are = laws.nothing p
  calls_spelled [] (c ∷ cs) numbers are = absurd numbers
  calls_spelled (a ∷ others) [] numbers are = absurd numbers
  calls_spelled (a ∷ others) (c ∷ cs) numbers are =
      let first = both (is_call p c) (list_all (is_call p) cs) are in
      let rest : List ℕ = joined (map (action_text p g) others) in
      let is : call_at g a ≡ c = get_or_from_slice_get g.calls a c (record { schema = 0; objects = [] }) numbers.0 in
      subst (λ (x : Call). SpellsAnywhere p (call_text p x ++ line_feed ∷ rest) (c ∷ cs)) (sym is)
      (laws.call p c rest cs well first.0 (calls_spelled others cs numbers.1 first.1))

  plan_spelled : (how : How) (count : ℕ) (rest : List ℕ) (calls : List Call) → count < 2 ^ 64 → SpellsAnywhere p rest calls → SpellsAnywhere p (plan_line how count ++ line_feed ∷ rest) calls
  plan_spelled Greedy count rest calls few spelled =
      laws.comment p (codes " plan of " ++ (decimal count ++ plan_words Greedy)) rest calls (line-append (codes " plan of ") (decimal count ++ plan_words Greedy) refl (line-append (decimal count) (plan_words Greedy) (number_line count few) refl)) spelled
  plan_spelled Least count rest calls few spelled =
      laws.comment p (codes " plan of " ++ (decimal count ++ plan_words Least)) rest calls (line-append (codes " plan of ") (decimal count ++ plan_words Least) refl (line-append (decimal count) (plan_words Least) (number_line count few) refl)) spelled

  states_spelled : (states most : ℕ) (rest : List ℕ) (calls : List Call) → states < 2 ^ 64 → most < 2 ^ 64 → SpellsAnywhere p rest calls → SpellsAnywhere p (states_line states most ++ line_feed ∷ rest) calls
  states_spelled states most rest calls some few spelled =
      let last = line-append (codes " of ") (decimal most) refl (number_line most few) in
      laws.comment p (codes " states " ++ (decimal states ++ (codes " of " ++ decimal most))) rest calls
      (line-append (codes " states ") (decimal states ++ (codes " of " ++ decimal most)) refl (line-append (decimal states) (codes " of " ++ decimal most) (number_line states some) last)) spelled

  -- the report of a plan is a plan file of its calls
  pub report_read : (how : How) (states most : ℕ) (actions : List ℕ) (calls : List Call) → states < 2 ^ 64 → most < 2 ^ 64 → length actions < 2 ^ 64
      → AreNumbers g calls actions → list_all (is_call p) calls ≡ true → plan_file p (joined (states_line states most ∷ plan_line how (length actions) ∷ map (action_text p g) actions)) ≡ Ok calls
  report_read how states most actions calls some few small numbers are =
      laws.reads p _ calls (states_spelled states most _ calls some few (plan_spelled how (length actions) _ calls small (calls_spelled actions calls numbers are)))

  -- the lines of a plan alone are one too
  pub plan_read : (how : How) (actions : List ℕ) (calls : List Call) → length actions < 2 ^ 64 → AreNumbers g calls actions → list_all (is_call p) calls ≡ true
      → plan_file p (joined (plan_line how (length actions) ∷ map (action_text p g) actions)) ≡ Ok calls
  plan_read how actions calls small numbers are = laws.reads p _ calls (plan_spelled how (length actions) _ calls small (calls_spelled actions calls numbers are))
