-- What a number, a row and an entry add to a text, and to its length.
use Rattle.std.proofs.Common.{◌≡◌, ◌∙◌, ◌≤◌, ◌<◌, ◌+◌, ◌/◌, ◌%◌, ℕ, List, [], ◌∷◌, ◌++◌, length, min, codes, refl, sym, ap, subst, arith, append_assoc, append-nil, length-append}
use Rattle.std.specs.Prelude.{decimal}
use Rattle.std.proofs.lemmas.Fmt.{decimal_digit, decimal_step, length-decimal-le}
use Rattle.clause_base.specs.declared.log.Entry.{Entry}
use Rattle.clause_base.specs.declared.log.Entry.TheVariants.{Learn, Drop}
use Rattle.proof_log.specs.own.Length.{saturated}
use Rattle.proof_log.specs.Text.{AreSmall, AreWritten, IsWritten, proof_text}
use Rattle.proof_log.specs.own.Reading.{entry_then, numbered}
use Rattle.proof_log.proofs.Spelling.{entries_then, first_then, whole_text}

-- ---- digits

pub digits_few : (n : ℕ) → n ≤ 4294967295 → length (decimal n) ≤ 10
digits_few n small = length-decimal-le 10 n (omega arith) (omega (arith, small)) (omega (arith, small))

pub one_digit : (n : ℕ) → n < 10 → length (decimal n) ≡ 1
one_digit n small = ap length (decimal_digit n small)

pub one_digit_more : (n : ℕ) → 10 ≤ n → n ≤ 4294967295 → length (decimal n) ≡ length (decimal (n / 10)) + 1
one_digit_more n many small = ap length (decimal_step n many (omega (arith, small))) ∙ length-append (decimal (n / 10)) ((48 + n % 10) ∷ [])

-- ---- what follows goes on

numbered_on : (ns rest : List ℕ) → numbered ns rest ≡ numbered ns [] ++ rest
numbered_on [] rest = refl
numbered_on (n ∷ ns) rest = ap (λ (l : List ℕ). 32 ∷ l) (ap (λ (l : List ℕ). decimal n ++ l) (numbered_on ns rest) ∙ sym (append_assoc (decimal n) (numbered ns []) rest))

entry_on : (e : Entry) (rest : List ℕ) → entry_then e rest ≡ entry_then e [] ++ rest
entry_on (Learn clause hints) rest =
    let last = numbered_on hints (10 ∷ rest) ∙ (sym (append_assoc (numbered hints []) (10 ∷ []) rest) ∙ ap (λ (l : List ℕ). l ++ rest) (sym (numbered_on hints (10 ∷ [])))) in
    let all = numbered_on clause (codes " by" ++ numbered hints (10 ∷ rest))
    ∙ (ap (λ (l : List ℕ). numbered clause [] ++ (codes " by" ++ l)) last
    ∙ (sym (append_assoc (numbered clause []) (codes " by" ++ numbered hints (10 ∷ [])) rest) ∙ ap (λ (l : List ℕ). l ++ rest) (sym (numbered_on clause (codes " by" ++ numbered hints (10 ∷ [])))))) in
    ap (λ (l : List ℕ). codes "learn" ++ l) all
entry_on (Drop number) rest = ap (λ (l : List ℕ). codes "drop " ++ l) (sym (append_assoc (decimal number) (10 ∷ []) rest))

first_on : (horizon : ℕ) (rest : List ℕ) → first_then horizon rest ≡ first_then horizon [] ++ rest
first_on horizon rest = ap (λ (l : List ℕ). codes "horizon " ++ l) (sym (append_assoc (decimal horizon) (10 ∷ []) rest))

-- ---- what is written

-- a number more of a row
pub row_written : (ns rest text blank next old : List ℕ) (n : ℕ) → ns ≡ n ∷ rest → text ++ numbered ns [] ≡ old → blank ≡ text ++ 32 ∷ [] → next ≡ blank ++ decimal n → next ++ numbered rest [] ≡ old
row_written ns rest text blank next old n h so_far e f =
    let more = numbered rest [] in
    ap (λ (l : List ℕ). l ++ more) f
    ∙ (append_assoc blank (decimal n) more
    ∙ (ap (λ (l : List ℕ). l ++ (decimal n ++ more)) e
    ∙ (append_assoc text (32 ∷ []) (decimal n ++ more) ∙ (sym (ap (λ (l : List ℕ). text ++ numbered l []) h) ∙ so_far))))

-- and where none is left
pub row_done : (ns text old : List ℕ) → ns ≡ [] → text ++ numbered ns [] ≡ old → text ≡ old
row_done ns text old h so_far = sym (append-nil text) ∙ (sym (ap (λ (l : List ℕ). text ++ numbered l []) h) ∙ so_far)

pub learn_written : (clause hints old first codes_in by_in hints_in whole : List ℕ) → first ≡ old ++ codes "learn" → codes_in ≡ first ++ numbered clause [] → by_in ≡ codes_in ++ codes " by"
    → hints_in ≡ by_in ++ numbered hints [] → whole ≡ hints_in ++ 10 ∷ [] → whole ≡ old ++ entry_then (Learn clause hints) []
learn_written clause hints old first codes_in by_in hints_in whole a b c d e =
    let ends : numbered hints (10 ∷ []) ≡ numbered hints [] ++ 10 ∷ [] = numbered_on hints (10 ∷ []) in
    let line : entry_then (Learn clause hints) [] ≡ codes "learn" ++ (numbered clause [] ++ (codes " by" ++ (numbered hints [] ++ 10 ∷ []))) =
    ap (λ (l : List ℕ). codes "learn" ++ l) (numbered_on clause (codes " by" ++ numbered hints (10 ∷ [])) ∙ ap (λ (l : List ℕ). numbered clause [] ++ (codes " by" ++ l)) ends) in
    e ∙ (ap (λ (l : List ℕ). l ++ 10 ∷ []) d ∙ (append_assoc by_in (numbered hints []) (10 ∷ [])
    ∙ (ap (λ (l : List ℕ). l ++ (numbered hints [] ++ 10 ∷ [])) c ∙ (append_assoc codes_in (codes " by") (numbered hints [] ++ 10 ∷ [])
    ∙ (ap (λ (l : List ℕ). l ++ (codes " by" ++ (numbered hints [] ++ 10 ∷ []))) b ∙ (append_assoc first (numbered clause []) (codes " by" ++ (numbered hints [] ++ 10 ∷ []))
    ∙ (ap (λ (l : List ℕ). l ++ (numbered clause [] ++ (codes " by" ++ (numbered hints [] ++ 10 ∷ [])))) a
    ∙ (append_assoc old (codes "learn") (numbered clause [] ++ (codes " by" ++ (numbered hints [] ++ 10 ∷ []))) ∙ ap (λ (l : List ℕ). old ++ l) (sym line)))))))))

pub drop_written : (number : ℕ) (old first digits whole : List ℕ) → first ≡ old ++ codes "drop " → digits ≡ first ++ decimal number → whole ≡ digits ++ 10 ∷ []
    → whole ≡ old ++ entry_then (Drop number) []
drop_written number old first digits whole a b c =
    c ∙ (ap (λ (l : List ℕ). l ++ 10 ∷ []) b ∙ (append_assoc first (decimal number) (10 ∷ [])
    ∙ (ap (λ (l : List ℕ). l ++ (decimal number ++ 10 ∷ [])) a ∙ append_assoc old (codes "drop ") (decimal number ++ 10 ∷ []))))

pub first_written : (horizon : ℕ) (none first digits whole : List ℕ) → none ≡ [] → first ≡ none ++ codes "horizon " → digits ≡ first ++ decimal horizon → whole ≡ digits ++ 10 ∷ []
    → whole ≡ first_then horizon []
first_written horizon none first digits whole z a b c =
    c ∙ (ap (λ (l : List ℕ). l ++ 10 ∷ []) b ∙ (append_assoc first (decimal horizon) (10 ∷ [])
    ∙ (ap (λ (l : List ℕ). l ++ (decimal horizon ++ 10 ∷ [])) a ∙ (append_assoc none (codes "horizon ") (decimal horizon ++ 10 ∷ []) ∙ ap (λ (l : List ℕ). l ++ (codes "horizon " ++ (decimal horizon ++ 10 ∷ []))) z))))

-- the first line, and what the entries are to add
pub first_then_all : (horizon : ℕ) (log es : List Entry) (text : List ℕ) → text ≡ first_then horizon [] → es ≡ log → text ++ entries_then es [] ≡ first_then horizon (entries_then log [])
first_then_all horizon log es text t e =
    ap (λ (l : List ℕ). l ++ entries_then es []) t ∙ (sym (first_on horizon (entries_then es [])) ∙ ap (λ (x : List Entry). first_then horizon (entries_then x [])) e)

-- an entry more
pub entry_written : (es rest : List Entry) (e : Entry) (text next old : List ℕ) → es ≡ e ∷ rest → text ++ entries_then es [] ≡ old → next ≡ text ++ entry_then e [] → next ++ entries_then rest [] ≡ old
entry_written es rest e text next old h so_far added =
    ap (λ (l : List ℕ). l ++ entries_then rest []) added
    ∙ (append_assoc text (entry_then e []) (entries_then rest [])
    ∙ (ap (λ (l : List ℕ). text ++ l) (sym (entry_on e (entries_then rest []))) ∙ (sym (ap (λ (x : List Entry). text ++ entries_then x []) h) ∙ so_far)))

-- and where none is left
pub entries_done : (horizon : ℕ) (es log : List Entry) (text : List ℕ) → es ≡ [] → text ++ entries_then es [] ≡ first_then horizon (entries_then log []) → text ≡ proof_text horizon log
entries_done horizon es log text h so_far =
    sym (append-nil text) ∙ (sym (ap (λ (x : List Entry). text ++ entries_then x []) h) ∙ (so_far ∙ sym (whole_text horizon log)))

-- ---- lengths

-- a number more of a row
pub row_counted : (ns rest : List ℕ) (n sum d next total : ℕ) → ns ≡ n ∷ rest → saturated (sum + length (numbered ns [])) ≡ total → d ≡ length (decimal n) → next ≡ min (sum + (1 + d)) 18446744073709551615 → saturated (next + length (numbered rest [])) ≡ total
row_counted ns rest n sum d next total h so_far is added =
    let long = ap (λ (l : List ℕ). length (numbered l [])) h in
    let parts = length-append (decimal n) (numbered rest []) in
    omega (arith, long, parts, so_far, is, added)

-- and where none is left
pub row_all_counted : (ns : List ℕ) (sum total : ℕ) → ns ≡ [] → saturated (sum + length (numbered ns [])) ≡ total → sum ≤ 18446744073709551615 → sum ≡ total
row_all_counted ns sum total h so_far small =
    let long = ap (λ (l : List ℕ). length (numbered l [])) h in
    omega (arith, long, so_far, small)

learn_length : (clause hints : List ℕ) → length (entry_then (Learn clause hints) []) ≡ length (numbered clause []) + length (numbered hints []) + 9
learn_length clause hints =
    let a = ap length (numbered_on clause (codes " by" ++ numbered hints (10 ∷ []))) ∙ length-append (numbered clause []) (codes " by" ++ numbered hints (10 ∷ [])) in
    let b = ap length (numbered_on hints (10 ∷ [])) ∙ length-append (numbered hints []) (10 ∷ []) in
    omega (arith, a, b)

pub learn_counted : (clause hints : List ℕ) (m n both all : ℕ) → m ≡ saturated (length (numbered clause [])) → n ≡ saturated (length (numbered hints []))
    → both ≡ min (m + n) 18446744073709551615 → all ≡ min (both + 9) 18446744073709551615 → all ≡ saturated (length (entry_then (Learn clause hints) []))
learn_counted clause hints m n both all a b c d = let long = learn_length clause hints in omega (arith, long, a, b, c, d)

pub drop_counted : (number d : ℕ) → d ≤ 10 → d ≡ length (decimal number) → 6 + d ≡ saturated (length (entry_then (Drop number) []))
drop_counted number d few is =
    let long = length-append (decimal number) (10 ∷ []) in
    omega (arith, long, is, few)

pub first_counted : (horizon d : ℕ) (log es : List Entry) → d ≤ 10 → d ≡ length (decimal horizon) → es ≡ log → saturated (9 + d + length (entries_then es [])) ≡ saturated (length (first_then horizon (entries_then log [])))
first_counted horizon d log es few is e =
    let line = length-append (decimal horizon) (10 ∷ []) in
    let whole = ap length (first_on horizon (entries_then log [])) ∙ length-append (first_then horizon []) (entries_then log []) in
    let same = ap (λ (x : List Entry). length (entries_then x [])) e in
    omega (arith, line, whole, same, is, few)

-- an entry more
pub entry_counted : (es rest : List Entry) (e : Entry) (sum one next total : ℕ) → es ≡ e ∷ rest → saturated (sum + length (entries_then es [])) ≡ total → one ≡ saturated (length (entry_then e [])) → next ≡ min (sum + one) 18446744073709551615 → saturated (next + length (entries_then rest [])) ≡ total
entry_counted es rest e sum one next total h so_far own added =
    let long = ap (λ (x : List Entry). length (entries_then x [])) h ∙ (ap length (entry_on e (entries_then rest [])) ∙ length-append (entry_then e []) (entries_then rest [])) in
    omega (arith, long, so_far, own, added)

-- and where none is left
pub all_counted : (horizon : ℕ) (es log : List Entry) (sum : ℕ) → es ≡ [] → saturated (sum + length (entries_then es [])) ≡ saturated (length (first_then horizon (entries_then log []))) → sum ≤ 18446744073709551615 → sum ≡ saturated (length (proof_text horizon log))
all_counted horizon es log sum h so_far small =
    let long = ap (λ (x : List Entry). length (entries_then x [])) h in
    let text = ap length (whole_text horizon log) in
    omega (arith, long, text, so_far, small)

-- ---- what holds of every log

pub small_by : (ns rest all : List ℕ) (n : ℕ) → ns ≡ n ∷ rest → n ≤ 4294967295 → (AreSmall ns → AreSmall all) → AreSmall rest → AreSmall all
small_by ns rest all n h small so_far r = so_far (subst AreSmall (sym h) (small, r))

pub written_by : (es rest log : List Entry) (e : Entry) → es ≡ e ∷ rest → IsWritten e → (AreWritten es → AreWritten log) → AreWritten rest → AreWritten log
written_by es rest log e h one so_far r = so_far (subst AreWritten (sym h) (one, r))
