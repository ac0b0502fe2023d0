-- Clauses that are written are read back.
use Rattle.std.proofs.Common.{arith, ◌≡◌, ◌∙◌, ◌==◌, ◌+◌, ◌*◌, ◌/◌, ◌%◌, ◌^◌, ◌<◌, ◌≤◌, ℕ, List, [], ◌∷◌, ◌++◌, Bool, true, false, not, Ok, Err, Result, length, length-append, append_assoc, refl, sym, ap, subst}
use Rattle.std.specs.Prelude.{decimal, nat_lt, nat_le, if◌then◌else◌, codes, Option, Some, None}
use Rattle.std.specs.List.{AllByRecursion, list_all}
use Rattle.std.specs.Char.{is_ascii_digit}
use Rattle.std.specs.Str.{bytes_eq}
use Rattle.std.proofs.lemmas.Bool.Decides.{nat_tests}
use Rattle.std.proofs.lemmas.List.{append-nil}
use Rattle.std.proofs.lemmas.List.Splits.{slice_split_at}
use Rattle.std.proofs.lemmas.List.Elements.{All-from_recursion}
use Rattle.std.proofs.lemmas.Fmt.{digits_decimal, decimal_nonempty}
use Rattle.sat_text.specs.declared.words.Signed.{Signed}
use Rattle.sat_text.specs.Lines.{has_no_end}
use Rattle.sat_text.specs.Words.{is_blank, is_some, words_of}
use Rattle.sat_text.specs.LratLine.{is_passed, code_of}
use Rattle.sat_text.specs.Dimacs.{literal_text, clause_line, clause_lines}
use Rattle.never_text.specs.declared.fault.Fault.{Fault}
use Rattle.never_text.specs.declared.fault.Fault.TheVariants as fault
use Rattle.never_text.specs.Certificate.{Certificate, Nothing, Forward, Backward, lines_of, most_literals, literals_of, with_clause, told_as, with_words, with_line, with_lines, certificate_of, clauses_text, ended}
use Rattle.never_text.specs.Laws.{IsAsRead, read_so}
use Rattle.never_text.proofs.Lines.{one_more}
use Rattle.never_text.proofs.Numbers.{own, literal_number, literal_code, zero_number}
use Rattle.never_text.proofs.Usable.{sorted_below}

-- ---- bytes of words

-- a byte of a word
abbrev IsOwn : ℕ → Type 0
IsOwn b = (is_blank b ≡ false) × ((b == 10) ≡ false) × ((b == 99) ≡ false)

digit_own : (b : ℕ) → is_ascii_digit b ≡ true → IsOwn b
digit_own b e = (grind (arith, nat_tests), grind (arith, nat_tests), grind (arith, nat_tests))

digits_own : (ds : List ℕ) → list_all is_ascii_digit ds ≡ true → AllByRecursion IsOwn ds
digits_own [] e = tt
digits_own (b ∷ ds) e = by (is_ascii_digit b) refl (digits_own ds)
  where
    by : (t : Bool) → is_ascii_digit b ≡ t → (list_all is_ascii_digit ds ≡ true → AllByRecursion IsOwn ds) → AllByRecursion IsOwn (b ∷ ds)
    by true d rest = (digit_own b d, rest (rw d at e))
    by false d rest = absurd (let never : false ≡ true = rw d at e in cc)

literal_own : (l : ℕ) → l < 2147483648 → AllByRecursion IsOwn (literal_text l) × (0 < length (literal_text l))
literal_own l small = by (l % 2 == 0) refl
  where
    fits : l / 2 + 1 < 2 ^ 64
    fits = omega (arith, small)

    by : (t : Bool) → (l % 2 == 0) ≡ t → AllByRecursion IsOwn (literal_text l) × (0 < length (literal_text l))
    by true e = rw e (digits_own (decimal (l / 2 + 1)) (digits_decimal own (l / 2 + 1) fits), decimal_nonempty (l / 2 + 1) fits)
    by false e = rw e ((digit_minus, digits_own (decimal (l / 2 + 1)) (digits_decimal own (l / 2 + 1) fits)), omega arith)
      where
        digit_minus : IsOwn 45
        digit_minus = (refl, refl, refl)

no_blank : (word : List ℕ) → AllByRecursion IsOwn word → AllByRecursion (λ b. is_blank b ≡ false) word
no_blank [] h = tt
no_blank (b ∷ word) h = (h.0.0, no_blank word h.1)

no_end : (word rest : List ℕ) → AllByRecursion IsOwn word → has_no_end rest ≡ true → has_no_end (word ++ rest) ≡ true
no_end [] rest h e = e
no_end (b ∷ word) rest h e = rw h.0.1 (no_end word rest h.1 e)

no_comment : (word : List ℕ) → AllByRecursion IsOwn word → 0 < length word → bytes_eq word (codes "c") ≡ false
no_comment [] h some = absurd (omega (arith, some))
no_comment (b ∷ word) h some = rw h.0.2 refl

word_some : (word : List ℕ) → 0 < length word → is_some word ≡ true
word_some [] some = absurd (omega (arith, some))
word_some (b ∷ word) some = refl

-- ---- a line

-- the line of a clause without its end
abbrev body : List ℕ → List ℕ
body [] = codes "0"
body (l ∷ ls) = literal_text l ++ 32 ∷ body ls

-- its words
abbrev words : List ℕ → List (List ℕ)
words [] = codes "0" ∷ []
words (l ∷ ls) = literal_text l ∷ words ls

line_body : (c : List ℕ) → clause_line c ≡ body c ++ 10 ∷ []
line_body [] = refl
line_body (l ∷ ls) = ap (λ (t : List ℕ). literal_text l ++ 32 ∷ t) (line_body ls) ∙ sym (append_assoc (literal_text l) (32 ∷ body ls) (10 ∷ []))

-- an empty line tells nothing
nothing_passed : is_passed (words_of []) ≡ true
unfolding words_of
nothing_passed = refl

-- the first line
forward_begins : (facts : ℕ) → with_line facts Nothing (codes "clauses forward") ≡ Ok (Forward [])
unfolding words_of
forward_begins facts = refl

backward_begins : (facts : ℕ) → with_line facts Nothing (codes "clauses backward") ≡ Ok (Backward [])
unfolding words_of
backward_begins facts = refl

module _ (facts : ℕ) (few_facts : facts ≤ 1073741824) where
  abbrev AreSmall : List ℕ → Type 0
  AreSmall c = AllByRecursion (λ l. l < 2 * facts) c

  body_words : (c : List ℕ) → AreSmall c → words_of (body c) ≡ words c
  unfolding words_of
  body_words [] h = refl
  body_words (l ∷ ls) h =
      let w = literal_own l (omega (arith, h.0, few_facts)) in
      let cut = slice_split_at is_blank (literal_text l) 32 (body ls) (All-from_recursion (λ b. is_blank b ≡ false) (literal_text l) (no_blank (literal_text l) w.0)) refl in
      rw (cut, word_some (literal_text l) w.1) (ap (λ (ws : List (List ℕ)). literal_text l ∷ ws) (body_words ls h.1))

  body_whole : (c : List ℕ) → AreSmall c → has_no_end (body c) ≡ true
  body_whole [] h = refl
  body_whole (l ∷ ls) h = no_end (literal_text l) (32 ∷ body ls) (literal_own l (omega (arith, h.0, few_facts))).0 (body_whole ls h.1)

  not_passed : (c : List ℕ) → AreSmall c → is_passed (words c) ≡ false
  not_passed [] h = refl
  not_passed (l ∷ ls) h = let w = literal_own l (omega (arith, h.0, few_facts)) in no_comment (literal_text l) w.0 w.1

  -- the literals of a line, after others
  read_line : (c before : List ℕ) → AreSmall c → length before + length c ≤ most_literals → literals_of facts before (words c) ≡ Ok (before ++ c)
  read_line [] before h few =
      ap (λ (o : Option Signed). elim o as (λ _. Result (List ℕ) Fault) [
        | None ↦ Err fault.Number
        | Some t ↦
            if t.number == 0 then Ok before
            else if nat_lt facts t.number then Err fault.Fact
            else if nat_le most_literals (length before) then Err fault.Long
            else literals_of facts (before ++ code_of t ∷ []) []
      ]) zero_number
      ∙ ap (λ (ls : List ℕ). Ok ls) (sym (append-nil before))
  read_line (l ∷ ls) before h few =
      let told : Signed = record { minus = not (l % 2 == 0); number = l / 2 + 1 } in
      let here = ap (λ (o : Option Signed). elim o as (λ _. Result (List ℕ) Fault) [
        | None ↦ Err fault.Number
        | Some t ↦
            if t.number == 0 then (if length (words ls) == 0 then Ok before else Err fault.End)
            else if nat_lt facts t.number then Err fault.Fact
            else if nat_le most_literals (length before) then Err fault.Long
            else literals_of facts (before ++ code_of t ∷ []) (words ls)
      ]) (literal_number l (omega (arith, h.0, few_facts))) in
      let some : (l / 2 + 1 == 0) ≡ false = grind (arith, nat_tests) in
      let fact : nat_lt facts (l / 2 + 1) ≡ false = (let low : l / 2 + 1 ≤ facts = omega (arith, h.0) in grind (arith, nat_tests)) in
      let room : nat_le most_literals (length before) ≡ false = (let low : length before < 4096 = omega (arith, few) in grind (arith, nat_tests)) in
      let long : length (before ++ l ∷ []) ≡ length before + 1 = length-append before (l ∷ []) in
      let rest = read_line ls (before ++ l ∷ []) h.1 (omega (arith, few, long)) in
      here ∙ (rw (some, fact, room, literal_code l) rest ∙ ap (λ (xs : List ℕ). Ok xs) (append_assoc before (l ∷ []) ls))

  -- ---- lines

  module _ (make : List (List ℕ) → Certificate) (steps : (cs : List (List ℕ)) (ws : List (List ℕ)) → with_words facts (make cs) ws ≡ told_as make (with_clause facts cs (literals_of facts [] ws))) where
    line_read : (cs : List (List ℕ)) (c : List ℕ) → AreSmall c → IsAsRead facts c → with_line facts (make cs) (body c) ≡ Ok (make (cs ++ c ∷ []))
    line_read cs c h is =
        rw (body_words c h, not_passed c h) (steps cs (words c) ∙ (ap (λ (r : Result (List ℕ) Fault). told_as make (with_clause facts cs r)) (read_line c [] h (omega (arith, is.few)))
        ∙ ap (λ (d : List ℕ). Ok (make (cs ++ d ∷ []))) is.sorted))

    pub lines_read : (clauses cs : List (List ℕ)) (at : ℕ) → AllByRecursion AreSmall clauses → AllByRecursion (IsAsRead facts) clauses
        → with_lines facts (make cs) at (lines_of (clause_lines clauses)) ≡ Ok (make (cs ++ clauses))
    lines_read [] cs at h is =
        let here : with_line facts (make cs) [] ≡ Ok (make cs) = rw nothing_passed refl in
        ap (λ (r : Result Certificate Fault). elim r as (λ _. Result Certificate (ℕ × Fault)) [ Ok next ↦ Ok next | Err f ↦ Err (at, f) ]) here
        ∙ ap (λ (ds : List (List ℕ)). Ok (make ds)) (sym (append-nil cs))
    lines_read (c ∷ clauses) cs at h is =
        let text : clause_lines (c ∷ clauses) ≡ body c ++ 10 ∷ clause_lines clauses = ap (λ (t : List ℕ). t ++ clause_lines clauses) (line_body c) ∙ append_assoc (body c) (10 ∷ []) (clause_lines clauses) in
        let first = one_more (clause_lines (c ∷ clauses)) (body c) (clause_lines clauses) (body_whole c h.0) text in
        let step = ap (λ (r : Result Certificate Fault). elim r as (λ _. Result Certificate (ℕ × Fault)) [ Ok next ↦ with_lines facts next (at + length (body c) + 1) (lines_of (clause_lines clauses)) | Err f ↦ Err (at, f) ]) (line_read cs c h.0 is.0) in
        ap (with_lines facts (make cs) at) first ∙ (step ∙ (lines_read clauses (cs ++ c ∷ []) (at + length (body c) + 1) h.1 is.1 ∙ ap (λ (ds : List (List ℕ)). Ok (make ds)) (append_assoc cs (c ∷ []) clauses)))

  -- ---- the whole text

  all_small : (clauses : List (List ℕ)) → AllByRecursion (IsAsRead facts) clauses → AllByRecursion AreSmall clauses
  all_small [] is = tt
  all_small (c ∷ clauses) is = (subst AreSmall is.0.sorted (sorted_below facts c), all_small clauses is.1)

  module _ (make : List (List ℕ) → Certificate) (steps : (cs : List (List ℕ)) (ws : List (List ℕ)) → with_words facts (make cs) ws ≡ told_as make (with_clause facts cs (literals_of facts [] ws))) (first : List ℕ) (whole : has_no_end first ≡ true) (begins : with_line facts Nothing first ≡ Ok (make [])) where
    all_read : (clauses : List (List ℕ)) → AllByRecursion (IsAsRead facts) clauses → with_lines facts Nothing 0 (lines_of (first ++ 10 ∷ clause_lines clauses)) ≡ Ok (make clauses)
    all_read clauses is =
        let cut = one_more (first ++ 10 ∷ clause_lines clauses) first (clause_lines clauses) whole refl in
        let step = ap (λ (r : Result Certificate Fault). elim r as (λ _. Result Certificate (ℕ × Fault)) [ Ok next ↦ with_lines facts next (0 + length first + 1) (lines_of (clause_lines clauses)) | Err f ↦ Err (0, f) ]) begins in
        ap (with_lines facts Nothing 0) cut ∙ (step ∙ lines_read make steps clauses [] (0 + length first + 1) (all_small clauses is) is)

  pub written_read : (forward : Bool) (clauses : List (List ℕ)) → AllByRecursion (IsAsRead facts) clauses → certificate_of facts (clauses_text forward clauses) ≡ Ok (read_so forward clauses)
  unfolding certificate_of
  written_read true clauses is = ap (ended (length (clauses_text true clauses))) (all_read Forward (λ cs ws. refl) (codes "clauses forward") refl (forward_begins facts) clauses is)
  written_read false clauses is = ap (ended (length (clauses_text false clauses))) (all_read Backward (λ cs ws. refl) (codes "clauses backward") refl (backward_begins facts) clauses is)
