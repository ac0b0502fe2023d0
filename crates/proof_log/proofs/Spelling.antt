-- One text for each horizon and log, and one horizon and log for each text.
use Rattle.std.proofs.Common.{◌≡◌, ◌∙◌, ◌≤◌, ◌<◌, ◌+◌, ◌-◌, ◌==◌, Bool, true, false, true≢false, ℕ, suc, List, [], ◌∷◌, ◌++◌, length, map, codes, refl, sym, ap, subst, arith, append_assoc, append-nil, length-append}
use Rattle.std.specs.Prelude.{decimal}
use Rattle.std.proofs.lemmas.Bool.{eqb-true}
use Rattle.std.specs.List.{AllByRecursion}
use Rattle.report_lines.specs.Lines.{joined}
use Rattle.clause_base.specs.declared.log.Entry.{Entry}
use Rattle.clause_base.specs.declared.log.Entry.TheVariants.{Learn, Drop}
use Rattle.proof_log.specs.Text.{AreWritten, IsWritten, after_blanks, entry_line, horizon_words, proof_lines, proof_text, spaced}
use Rattle.proof_log.specs.Place.{AllFit, FitsAfter, IsEntryLine, IsHorizonLine, IsUnfitAt}
use Rattle.proof_log.specs.own.Reading.{entry_then, learn_then, numbered, one_then}
use Rattle.proof_log.proofs.Cuts.{by_ends, ended_cut, feed_ends, heads}
use Rattle.horizon_rates.specs.Limits.{last_horizon}

-- ---- lines, and what follows them

-- numbers, and then other words
blanks_numbered : (ns : List ℕ) (words : List (List ℕ)) (rest : List ℕ) → after_blanks (map decimal ns ++ words) ++ rest ≡ numbered ns (after_blanks words ++ rest)
blanks_numbered [] words rest = refl
blanks_numbered (n ∷ ns) words rest =
    ap (λ (l : List ℕ). 32 ∷ l) (append_assoc (decimal n) (after_blanks (map decimal ns ++ words)) rest ∙ ap (λ (l : List ℕ). decimal n ++ l) (blanks_numbered ns words rest))

last_numbered : (ns : List ℕ) (rest : List ℕ) → after_blanks (map decimal ns) ++ rest ≡ numbered ns rest
last_numbered [] rest = refl
last_numbered (n ∷ ns) rest =
    ap (λ (l : List ℕ). 32 ∷ l) (append_assoc (decimal n) (after_blanks (map decimal ns)) rest ∙ ap (λ (l : List ℕ). decimal n ++ l) (last_numbered ns rest))

pub line_then : (e : Entry) (rest : List ℕ) → entry_line e ++ 10 ∷ rest ≡ entry_then e rest
line_then (Learn clause hints) rest =
    ap (λ (l : List ℕ). codes "learn" ++ l) (blanks_numbered clause (codes "by" ∷ map decimal hints) (10 ∷ rest)
    ∙ ap (λ (l : List ℕ). numbered clause (codes " by" ++ l)) (last_numbered hints (10 ∷ rest)))
line_then (Drop number) rest = ap (λ (l : List ℕ). codes "drop" ++ l) (last_numbered (number ∷ []) (10 ∷ rest))

-- the first line, and then the rest
abbrev pub first_then : ℕ → List ℕ → List ℕ
first_then horizon rest = codes "horizon" ++ one_then horizon rest

pub first_line_then : (horizon : ℕ) (rest : List ℕ) → spaced (horizon_words horizon) ++ 10 ∷ rest ≡ first_then horizon rest
first_line_then horizon rest = ap (λ (l : List ℕ). codes "horizon" ++ l) (last_numbered (horizon ∷ []) (10 ∷ rest))

-- the lines of entries, and then the rest
abbrev pub entries_then : List Entry → List ℕ → List ℕ
entries_then [] rest = rest
entries_then (e ∷ es) rest = entry_then e (entries_then es rest)

pub lines_then : (es : List Entry) (rest : List ℕ) → joined (map entry_line es) ++ rest ≡ entries_then es rest
lines_then [] rest = refl
lines_then (e ∷ es) rest =
    append_assoc (entry_line e) (10 ∷ joined (map entry_line es)) rest ∙ (line_then e (joined (map entry_line es) ++ rest) ∙ ap (entry_then e) (lines_then es rest))

pub text_then : (horizon : ℕ) (es : List Entry) (rest : List ℕ) → proof_text horizon es ++ rest ≡ first_then horizon (entries_then es rest)
text_then horizon es rest =
    append_assoc (spaced (horizon_words horizon)) (10 ∷ joined (map entry_line es)) rest
    ∙ (first_line_then horizon (joined (map entry_line es) ++ rest) ∙ ap (first_then horizon) (lines_then es rest))

pub whole_text : (horizon : ℕ) (es : List Entry) → proof_text horizon es ≡ first_then horizon (entries_then es [])
whole_text horizon es = sym (append-nil (proof_text horizon es)) ∙ text_then horizon es []

pub entries-push : (es : List Entry) (e : Entry) (rest : List ℕ) → entries_then (es ++ e ∷ []) rest ≡ entries_then es (entry_then e rest)
entries-push [] e rest = refl
entries-push (x ∷ es) e rest = ap (entry_then x) (entries-push es e rest)

pub written-push : (es : List Entry) (e : Entry) → AreWritten es → IsWritten e → AreWritten (es ++ e ∷ [])
written-push [] e are is = (is, tt)
written-push (x ∷ es) e are is = (are.0, written-push es e are.1 is)

-- ---- one line is of one entry

pub one_cut : (n m : ℕ) (us vs : List ℕ) → n ≤ 4294967295 → m ≤ 4294967295 → one_then n us ≡ one_then m vs → (n ≡ m) × (us ≡ vs)
one_cut n m us vs p q e =
    let cut = ended_cut (n ∷ []) (m ∷ []) (10 ∷ us) (10 ∷ vs) (p, tt) (q, tt) (feed_ends us) (feed_ends vs) e in
    (cc (cut.0), cc (cut.1))

first_cut : (n m : ℕ) (us vs : List ℕ) → n ≤ last_horizon → m ≤ last_horizon → first_then n us ≡ first_then m vs → (n ≡ m) × (us ≡ vs)
first_cut n m us vs p q e = let told : one_then n us ≡ one_then m vs = cc in one_cut n m us vs (omega (arith, p)) (omega (arith, q)) told

entry_cut : (e f : Entry) (us vs : List ℕ) → IsWritten e → IsWritten f → entry_then e us ≡ entry_then f vs → (e ≡ f) × (us ≡ vs)
entry_cut (Learn c h) (Learn d k) us vs p q e =
    let told : learn_then c h us ≡ learn_then d k vs = cc in
    let codes_cut = ended_cut c d (codes " by" ++ numbered h (10 ∷ us)) (codes " by" ++ numbered k (10 ∷ vs)) p.1 q.1 (by_ends (numbered h (10 ∷ us))) (by_ends (numbered k (10 ∷ vs))) told in
    let others : numbered h (10 ∷ us) ≡ numbered k (10 ∷ vs) = cc (codes_cut.1) in
    let hints_cut = ended_cut h k (10 ∷ us) (10 ∷ vs) p.2 q.2 (feed_ends us) (feed_ends vs) others in
    (cc (codes_cut.0, hints_cut.0), cc (hints_cut.1))
entry_cut (Learn c h) (Drop m) us vs p q e = absurd (let never = heads 108 100 (codes "earn" ++ learn_then c h us) (codes "rop" ++ one_then m vs) e in omega (arith, never))
entry_cut (Drop n) (Learn d k) us vs p q e = absurd (let never = heads 100 108 (codes "rop" ++ one_then n us) (codes "earn" ++ learn_then d k vs) e in omega (arith, never))
entry_cut (Drop n) (Drop m) us vs p q e =
    let told : one_then n us ≡ one_then m vs = cc in
    let cut = one_cut n m us vs p q told in
    (cc (cut.0), cut.1)

not_empty : (x : ℕ) (xs : List ℕ) → [] ≡ x ∷ xs → ⊥
not_empty x xs e = let never : ◌≡◌ {A = ℕ} 0 (suc (length xs)) = ap length e in omega (arith, never)

no_bytes : (e : Entry) (rest : List ℕ) → [] ≡ entry_then e rest → ⊥
no_bytes (Learn c h) rest e = not_empty 108 (codes "earn" ++ learn_then c h rest) e
no_bytes (Drop n) rest e = not_empty 100 (codes "rop" ++ one_then n rest) e

entries_cut : (es fs : List Entry) → AreWritten es → AreWritten fs → entries_then es [] ≡ entries_then fs [] → es ≡ fs
entries_cut [] [] p q e = refl
entries_cut [] (f ∷ fs) p q e = absurd (no_bytes f (entries_then fs []) e)
entries_cut (x ∷ es) [] p q e = absurd (no_bytes x (entries_then es []) (sym e))
entries_cut (x ∷ es) (f ∷ fs) p q e =
    let cut = entry_cut x f (entries_then es []) (entries_then fs []) p.0 q.0 e in
    cc (cut.0, entries_cut es fs p.1 q.1 cut.1)

pub one_spelling : (horizon other : ℕ) (log others : List Entry) → horizon ≤ last_horizon → other ≤ last_horizon → AreWritten log → AreWritten others
    → proof_text horizon log ≡ proof_text other others → (horizon ≡ other) × (log ≡ others)
one_spelling horizon other log others p q are too e =
    let cut = first_cut horizon other (entries_then log []) (entries_then others []) p q (sym (whole_text horizon log) ∙ (e ∙ whole_text other others)) in
    (cut.0, entries_cut log others are too cut.1)

-- ---- places

-- a line of an entry, and then the rest
of_line : (line rest : List ℕ) (is : IsEntryLine line) → line ++ 10 ∷ rest ≡ entry_then is.0 rest
of_line line rest is = ap (λ (l : List ℕ). l ++ 10 ∷ rest) is.2 ∙ line_then is.0 rest

of_first : (line rest : List ℕ) (is : IsHorizonLine line) → line ++ 10 ∷ rest ≡ first_then is.0 rest
of_first line rest is = ap (λ (l : List ℕ). l ++ 10 ∷ rest) is.2 ∙ first_line_then is.0 rest

-- a rest is no further line
abbrev NoLine : List ℕ → Type 0
NoLine rest = (line more : List ℕ) → rest ≡ line ++ 10 ∷ more → IsEntryLine line → ⊥

lines_end : (es : List Entry) (lines : List (List ℕ)) (rest : List ℕ) → AreWritten es → AllByRecursion IsEntryLine lines → NoLine rest
    → entries_then es [] ≡ joined lines ++ rest → rest ≡ []
lines_end [] [] rest are fit none e = sym e
lines_end [] (l ∷ ls) rest are fit none e =
    absurd (no_bytes fit.0.0 (joined ls ++ rest) (e ∙ (append_assoc l (10 ∷ joined ls) rest ∙ of_line l (joined ls ++ rest) fit.0)))
lines_end (x ∷ es) [] rest are fit none e =
    absurd (none (entry_line x) (entries_then es []) (sym e ∙ sym (line_then x (entries_then es []))) (x, are.0, refl))
lines_end (x ∷ es) (l ∷ ls) rest are fit none e =
    let there = e ∙ (append_assoc l (10 ∷ joined ls) rest ∙ of_line l (joined ls ++ rest) fit.0) in
    let cut = entry_cut x fit.0.0 (entries_then es []) (joined ls ++ rest) are.0 fit.0.1 there in
    lines_end es ls rest are.1 fit.1 none cut.1

pub texts_fit : (horizon : ℕ) (log : List Entry) (at : ℕ) → horizon ≤ last_horizon → AreWritten log → IsUnfitAt (proof_text horizon log) at → ⊥
texts_fit horizon log at small are u = by u.lines u.text u.fit u.left u.unfit
  where
    by : (lines : List (List ℕ)) → proof_text horizon log ≡ joined lines ++ u.rest → AllFit lines → (u.rest ≡ [] → lines ≡ [])
        → ((line more : List ℕ) → u.rest ≡ line ++ 10 ∷ more → FitsAfter lines line → ⊥) → ⊥
    by [] text fit left unfit = unfit (spaced (horizon_words horizon)) (joined (map entry_line log)) (sym text) (horizon, small, refl)
    by (l ∷ ls) text fit left unfit =
        let there = sym (whole_text horizon log) ∙ (text ∙ (append_assoc l (10 ∷ joined ls) u.rest ∙ of_first l (joined ls ++ u.rest) fit.0)) in
        let cut = first_cut horizon fit.0.0 (entries_then log []) (joined ls ++ u.rest) small fit.0.1 there in
        let none = left (lines_end log ls u.rest are fit.1 unfit cut.1) in
        let never : suc (length ls) ≡ 0 = ap length none in
        omega (arith, never)

-- lines that fit, up to where none follows, are one list
same_length : (ls ks : List (List ℕ)) (us vs : List ℕ) → AllByRecursion IsEntryLine ls → AllByRecursion IsEntryLine ks → NoLine us → NoLine vs
    → joined ls ++ us ≡ joined ks ++ vs → length (joined ls) ≡ length (joined ks)
same_length [] [] us vs p q s t e = refl
same_length [] (k ∷ ks) us vs p q s t e = absurd (s k (joined ks ++ vs) (e ∙ append_assoc k (10 ∷ joined ks) vs) q.0)
same_length (l ∷ ls) [] us vs p q s t e = absurd (t l (joined ls ++ us) (sym e ∙ append_assoc l (10 ∷ joined ls) us) p.0)
same_length (l ∷ ls) (k ∷ ks) us vs p q s t e =
    let there = sym (append_assoc l (10 ∷ joined ls) us ∙ of_line l (joined ls ++ us) p.0) ∙ (e ∙ (append_assoc k (10 ∷ joined ks) vs ∙ of_line k (joined ks ++ vs) q.0)) in
    let cut = entry_cut p.0.0 q.0.0 (joined ls ++ us) (joined ks ++ vs) p.0.1 q.0.1 there in
    let heads : l ≡ k = p.0.2 ∙ (ap entry_line cut.0 ∙ sym q.0.2) in
    let rest = same_length ls ks us vs p.1 q.1 s t cut.1 in
    let one = ap length heads in
    omega (arith, length-append l (10 ∷ joined ls), length-append k (10 ∷ joined ks), one, rest)

pub one_place : (bytes : List ℕ) (at other : ℕ) → IsUnfitAt bytes at → IsUnfitAt bytes other → at ≡ other
one_place bytes at other u v = u.place ∙ (by u.lines v.lines (sym u.text ∙ v.text) u.fit v.fit u.unfit v.unfit ∙ sym v.place)
  where
    by : (ls ks : List (List ℕ)) → joined ls ++ u.rest ≡ joined ks ++ v.rest → AllFit ls → AllFit ks
        → ((line more : List ℕ) → u.rest ≡ line ++ 10 ∷ more → FitsAfter ls line → ⊥) → ((line more : List ℕ) → v.rest ≡ line ++ 10 ∷ more → FitsAfter ks line → ⊥)
        → length (joined ls) ≡ length (joined ks)
    by [] [] e p q s t = refl
    by [] (k ∷ ks) e p q s t = absurd (s k (joined ks ++ v.rest) (e ∙ append_assoc k (10 ∷ joined ks) v.rest) q.0)
    by (l ∷ ls) [] e p q s t = absurd (t l (joined ls ++ u.rest) (sym e ∙ append_assoc l (10 ∷ joined ls) u.rest) p.0)
    by (l ∷ ls) (k ∷ ks) e p q s t =
        let there = sym (append_assoc l (10 ∷ joined ls) u.rest ∙ of_first l (joined ls ++ u.rest) p.0)
        ∙ (e ∙ (append_assoc k (10 ∷ joined ks) v.rest ∙ of_first k (joined ks ++ v.rest) q.0)) in
        let cut = first_cut p.0.0 q.0.0 (joined ls ++ u.rest) (joined ks ++ v.rest) p.0.1 q.0.1 there in
        let heads : l ≡ k = p.0.2 ∙ (ap (λ (h : ℕ). spaced (horizon_words h)) cut.0 ∙ sym q.0.2) in
        let rest = same_length ls ks u.rest v.rest p.1 q.1 s t cut.1 in
        let one = ap length heads in
        omega (arith, length-append l (10 ∷ joined ls), length-append k (10 ∷ joined ks), one, rest)

-- ---- reading line by line

-- these entries were read, and this is left
pub record IsParsed (bytes : List ℕ) (horizon : ℕ) (log : List Entry) (rest : List ℕ) : Type 0 where
  pub text : bytes ≡ first_then horizon (entries_then log rest)
  pub small : horizon ≤ last_horizon
  pub written : AreWritten log

pub one_entry_more : (bytes : List ℕ) (horizon : ℕ) (log next : List Entry) (rest others : List ℕ) (e : Entry) → IsParsed bytes horizon log rest → IsWritten e
    → next ≡ log ++ e ∷ [] → rest ≡ entry_then e others → IsParsed bytes horizon next others
one_entry_more bytes horizon log next rest others e p is added text = record {
  text = p.text ∙ ap (first_then horizon) (ap (entries_then log) text ∙ (sym (entries-push log e others) ∙ ap (λ (es : List Entry). entries_then es others) (sym added)));
  small = p.small;
  written = subst AreWritten (sym added) (written-push log e p.written is);
}

pub all_parsed : (bytes : List ℕ) (horizon : ℕ) (log : List Entry) (rest : List ℕ) → IsParsed bytes horizon log rest → rest ≡ [] → bytes ≡ proof_text horizon log
all_parsed bytes horizon log rest p none = p.text ∙ (ap (λ (l : List ℕ). first_then horizon (entries_then log l)) none ∙ sym (whole_text horizon log))

lines_fit : (es : List Entry) → AreWritten es → AllByRecursion IsEntryLine (map entry_line es)
lines_fit [] are = tt
lines_fit (e ∷ es) are = ((e, are.0, refl), lines_fit es are.1)

pub unfit_here : (bytes : List ℕ) (horizon : ℕ) (log : List Entry) (rest : List ℕ) (at : ℕ) → IsParsed bytes horizon log rest → (rest ≡ [] → ⊥)
    → ((e : Entry) (more : List ℕ) → IsWritten e → rest ≡ entry_then e more → ⊥) → at ≡ length bytes - length rest → IsUnfitAt bytes at
unfit_here bytes horizon log rest at p some none place =
    let text : bytes ≡ proof_text horizon log ++ rest = p.text ∙ sym (text_then horizon log rest) in
    record {
      lines = proof_lines horizon log;
      rest = rest;
      text = text;
      place = (let long = ap length text ∙ length-append (proof_text horizon log) rest in omega (arith, long, place));
      fit = ((horizon, p.small, refl), lines_fit log p.written);
      left = λ empty. absurd (some empty);
      unfit = λ line more e is. none is.0 more is.1 (e ∙ of_line line more is);
    }

pub parsed_first : (bytes : List ℕ) (horizon : ℕ) (rest : List ℕ) → horizon ≤ last_horizon → bytes ≡ first_then horizon rest → IsParsed bytes horizon [] rest
parsed_first bytes horizon rest small text = record { text = text; small = small; written = tt }

shorter_first : (horizon : ℕ) (rest : List ℕ) → length rest ≤ length (first_then horizon rest)
shorter_first horizon rest = omega (arith, length-append (decimal horizon) (10 ∷ rest))

numbered_longer : (ns rest : List ℕ) → length rest ≤ length (numbered ns rest)
numbered_longer [] rest = omega arith
numbered_longer (n ∷ ns) rest = omega (arith, length-append (decimal n) (numbered ns rest), numbered_longer ns rest)

-- an entry takes some bytes
pub entry_longer : (e : Entry) (rest : List ℕ) → length rest < length (entry_then e rest)
entry_longer (Learn c h) rest = omega (arith, numbered_longer c (codes " by" ++ numbered h (10 ∷ rest)), numbered_longer h (10 ∷ rest))
entry_longer (Drop n) rest = omega (arith, length-append (decimal n) (10 ∷ rest))

entries_longer : (es : List Entry) (rest : List ℕ) → length es + length rest ≤ length (entries_then es rest)
entries_longer [] rest = omega arith
entries_longer (e ∷ es) rest = omega (arith, entry_longer e (entries_then es rest), entries_longer es rest)

-- so what is left, and the entries before it, are no more than all bytes
pub left_over : (bytes : List ℕ) (horizon : ℕ) (log : List Entry) (rest : List ℕ) → IsParsed bytes horizon log rest → length log + length rest ≤ length bytes
left_over bytes horizon log rest p =
    let long = ap length p.text in
    omega (arith, long, shorter_first horizon (entries_then log rest), entries_longer log rest)

-- ---- tests for an empty rest

pub empty_by : (xs : List ℕ) (t : Bool) → t ≡ (length xs == 0) → t ≡ true → xs ≡ []
empty_by [] t e is = refl
empty_by (x ∷ xs) t e is = let never = eqb-true (length (x ∷ xs)) 0 (sym e ∙ is) in absurd (omega (arith, never))

pub not_empty_by : (xs : List ℕ) (t : Bool) → t ≡ (length xs == 0) → t ≡ false → xs ≡ [] → ⊥
not_empty_by xs t e is none =
    let holds : t ≡ true = e ∙ ap (λ (l : List ℕ). length l == 0) none in
    true≢false (sym holds ∙ is)
