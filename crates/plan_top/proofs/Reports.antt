-- An ending that stops a run says nothing of a horizon; and what a sink took.
use Rattle.std.proofs.Common.{◌≡◌, ◌<◌, ◌≤◌, ◌^◌, ℕ, Bool, true, false, List, [], ◌∷◌, ◌++◌, Option, Some, None, codes, refl, sym, ap, subst, ◌∙◌, arith, take, drop, append-nil}
use Rattle.std.specs.Prelude.{IsTrue, decimal}
use Rattle.std.specs.List.{list_all}
use Rattle.std.proofs.lemmas.List.{take-append-drop}
use Rattle.std.proofs.lemmas.List.Elements.{All-nil}
use Rattle.pl_io.specs.Outside.{TakesFront}
use Rattle.report_lines.specs.Lines.{is_line, joined}
use Rattle.report_lines.specs.Horizons.{Says, IsEntry, is_word, is_remark}
use Rattle.report_lines.specs.Laws.{ReportsSayEntries}
use Rattle.report_lines.proofs.published.Entries.{line-append, word_line, decimal_word}
use Rattle.plan_endings.specs.declared.ending.File.{File}
use Rattle.plan_endings.specs.declared.ending.File.TheVariants.{Domain, Problem, Plan, Proof}
use Rattle.plan_endings.specs.declared.ending.Kind.{Kind}
use Rattle.plan_endings.specs.declared.ending.Kind.TheVariants as kinds
use Rattle.plan_endings.specs.declared.ending.Limit.{Limit}
use Rattle.plan_endings.specs.declared.ending.Limit.TheVariants as limits
use Rattle.plan_endings.specs.declared.ending.Ending.{Ending}
use Rattle.plan_endings.specs.declared.ending.Ending.TheVariants.{Report, Listing, Reaches, Blocked, Short, Refused, TooLong, TooMany, TooLarge, ReadFault, Usage, Found, Open, Accepted, Rejected, NotEmpty, Parts}
use Rattle.plan_endings.specs.Ending.{status_of, text_of, line_of, kind_word, limit_word, word_of, IsSmall}
use Rattle.plan_top.specs.Headline.{Printed}
use Rattle.plan_tasks.proofs.published.Printing.{front_cancels}
pub use Rattle.plan_tasks.proofs.published.Printing.{printed_is}

-- ---- endings that stop a run

-- the ending tells why there is no answer
abbrev pub is_stop : Ending → Bool
is_stop (Refused kind file at) = true
is_stop (TooLong file) = true
is_stop (TooMany what count) = true
is_stop (TooLarge horizon count) = true
is_stop (ReadFault file) = true
is_stop end = false

pub stop_status : (end : Ending) → is_stop end ≡ true → 3 ≤ status_of end
stop_status (Report outcome text) h = absurd (let never : false ≡ true = h in cc)
stop_status (Listing text) h = absurd (let never : false ≡ true = h in cc)
stop_status Reaches h = absurd (let never : false ≡ true = h in cc)
stop_status (Blocked index) h = absurd (let never : false ≡ true = h in cc)
stop_status Short h = absurd (let never : false ≡ true = h in cc)
stop_status (Refused kind file at) h = omega arith
stop_status (TooLong file) h = omega arith
stop_status (TooMany what count) h = omega arith
stop_status (TooLarge horizon count) h = omega arith
stop_status (ReadFault file) h = omega arith
stop_status Usage h = absurd (let never : false ≡ true = h in cc)
stop_status (Found horizon conflicts) h = absurd (let never : false ≡ true = h in cc)
stop_status (Open horizon conflicts) h = absurd (let never : false ≡ true = h in cc)
stop_status (Accepted horizon entries) h = absurd (let never : false ≡ true = h in cc)
stop_status (Rejected entry) h = absurd (let never : false ≡ true = h in cc)
stop_status NotEmpty h = absurd (let never : false ≡ true = h in cc)
stop_status (Parts status text) h = absurd (let never : false ≡ true = h in cc)

decimal_line : (n : ℕ) → n < 2 ^ 64 → is_line (decimal n) ≡ true
decimal_line n small = word_line (decimal n) (decimal_word n small)

kind_line : (kind : Kind) → is_line (kind_word kind) ≡ true
kind_line kinds.Syntax = refl
kind_line kinds.Deep = refl
kind_line kinds.Shape = refl
kind_line kinds.Unknown = refl
kind_line kinds.Arity = refl
kind_line kinds.Duplicate = refl
kind_line kinds.Unsupported = refl
kind_line kinds.Mistyped = refl

file_line : (file : File) → is_line (word_of file) ≡ true
file_line Domain = refl
file_line Problem = refl
file_line Plan = refl
file_line Proof = refl

limit_line : (what : Limit) → is_line (limit_word what) ≡ true
limit_line limits.Tuples = refl
limit_line limits.Facts = refl
limit_line limits.Actions = refl
limit_line limits.Effects = refl

then_number : (word : List ℕ) (n : ℕ) → is_line word ≡ true → n < 2 ^ 64 → is_line (word ++ (codes " " ++ decimal n)) ≡ true
then_number word n is small = line-append word (codes " " ++ decimal n) is (decimal_line n small)

-- its text is one line, which says nothing of a horizon
abbrev IsRemark : Ending → Type 0
IsRemark end = (text_of end ≡ joined (line_of end ∷ [])) × (is_remark (line_of end) ≡ true)

stop_remark : (end : Ending) → is_stop end ≡ true → IsSmall end → IsRemark end
stop_remark (Report outcome text) h small = absurd (let never : false ≡ true = h in cc)
stop_remark (Listing text) h small = absurd (let never : false ≡ true = h in cc)
stop_remark Reaches h small = absurd (let never : false ≡ true = h in cc)
stop_remark (Blocked index) h small = absurd (let never : false ≡ true = h in cc)
stop_remark Short h small = absurd (let never : false ≡ true = h in cc)
stop_remark (Refused kind file at) h small =
    let place : is_line (word_of file ++ (codes " " ++ decimal at)) ≡ true = then_number (word_of file) at (file_line file) (omega arith) in
    (refl, rw (line-append (kind_word kind) (codes " " ++ (word_of file ++ (codes " " ++ decimal at))) (kind_line kind) place) refl)
stop_remark (TooLong file) h small = (refl, rw (file_line file) refl)
stop_remark (TooMany what count) h small = (refl, rw (then_number (limit_word what) count (limit_line what) small) refl)
stop_remark (TooLarge horizon count) h small =
    let rest : is_line (decimal count ++ (codes " horizon " ++ decimal horizon)) ≡ true = line-append (decimal count) (codes " horizon " ++ decimal horizon) (decimal_line count small.1) (decimal_line horizon small.0) in
    (refl, rw rest refl)
stop_remark (ReadFault file) h small = (refl, rw (file_line file) refl)
stop_remark Usage h small = absurd (let never : false ≡ true = h in cc)
stop_remark (Found horizon conflicts) h small = absurd (let never : false ≡ true = h in cc)
stop_remark (Open horizon conflicts) h small = absurd (let never : false ≡ true = h in cc)
stop_remark (Accepted horizon entries) h small = absurd (let never : false ≡ true = h in cc)
stop_remark (Rejected entry) h small = absurd (let never : false ≡ true = h in cc)
stop_remark NotEmpty h small = absurd (let never : false ≡ true = h in cc)
stop_remark (Parts status text) h small = absurd (let never : false ≡ true = h in cc)

pub stop_says_nothing : ReportsSayEntries → (end : Ending) → is_stop end ≡ true → IsSmall end → (horizon : ℕ) (word : List ℕ) (conflicts : ℕ) → IsTrue (is_word word) → Says (text_of end) horizon word conflicts → ⊥
stop_says_nothing say end stop small horizon word conflicts one says =
    let r = stop_remark end stop small in
    let only : list_all is_remark (line_of end ∷ []) ≡ true = rw r.1 refl in
    let told = say [] (line_of end ∷ []) horizon word conflicts (All-nil IsEntry) only one (subst (λ (t : List ℕ). Says t horizon word conflicts) r.0 says) in
    let within = told.1 in omega (arith, within)

-- ---- what a sink took

-- where nothing was written nothing is said
pub nothing_said : {A : Type 0} (taken : Option (List ℕ)) (text : List ℕ) (horizon conflicts : ℕ) (word : List ℕ) → Printed taken taken text → Says text horizon word conflicts → A
nothing_said None text horizon conflicts word p says = absurd (let never : None ≡ Some p.0 = p.1 in cc)
nothing_said (Some before) text horizon conflicts word p says =
    let all : Some (p.0 ++ text) ≡ Some p.0 = sym p.2 ∙ p.1 in
    let none : text ≡ [] = front_cancels p.0 text [] (let inner : p.0 ++ text ≡ p.0 = cc in inner ∙ sym (append-nil p.0)) in
    absurd (let said = subst (λ (xs : List ℕ). Says xs horizon word conflicts) none says in let within = said.4.1 in omega (arith, within))

-- a front of a text that was printed is a front of the text
pub printed_front : (old new : Option (List ℕ)) (text due : List ℕ) → Printed old new text → TakesFront old new due → (rest : List ℕ) × (due ≡ text ++ rest)
printed_front old new text due printed front =
    let is : text ≡ take front.0 due = printed_is old new text (take front.0 due) printed front.2 in
    (drop front.0 due, sym (take-append-drop front.0 due) ∙ ap (λ (xs : List ℕ). xs ++ drop front.0 due) (sym is))
