-- A report says no more of horizons than its entries do.
use Rattle.std.proofs.Common.{◌≡◌, ◌<◌, ◌^◌, ℕ, ◌==◌, Bool, true, false, not, ◌&&◌, List, [], ◌∷◌, ◌++◌, map, take, codes, refl, sym, ap, subst, ◌∙◌, arith}
use Rattle.std.specs.Prelude.{IsTrue, All, Contains, decimal, slice_index_or}
use Rattle.std.specs.List.{list_all}
use Rattle.std.specs.Str.{bytes_eq}
use Rattle.std.specs.Str.Parse.{AllDigits, digits_value}
use Rattle.std.specs.Char.{digit_value}
use Rattle.std.proofs.lemmas.Fmt.{decimal_is_IsNumeral}
use Rattle.std.proofs.lemmas.Bool.Decides.{nat_tests}
use Rattle.std.proofs.lemmas.List.Elements.{All-append, All-map, All-contains, All-contains_itself, All-nil, All-cons, All-head, All-tail}
use Rattle.report_lines.specs.Lines.{is_line}
use Rattle.report_lines.specs.Horizons.{Says, Writes, Entry, IsEntry, entry_line, horizon_line, is_word, is_remark, report}
use Rattle.report_lines.proofs.published.ReadBack.{both, read_back}

-- ---- words and digits

neither : (b : ℕ) (s t : Bool) → (b == 32) ≡ s → (b == 10) ≡ t → digit_value b < 10 → (not s && not t) ≡ true
neither b true t is_blank is_feed digit = absurd (let blank : b ≡ 32 = grind (arith, nat_tests) in let never = rw blank at digit in omega (arith, never))
neither b false true is_blank is_feed digit = absurd (let feed : b ≡ 10 = grind (arith, nat_tests) in let never = rw feed at digit in omega (arith, never))
neither b false false is_blank is_feed digit = refl

digits_word : (ds : List ℕ) → AllDigits 10 ds → is_word ds ≡ true
digits_word [] h = refl
digits_word (d ∷ ds) h = rw (neither d _ _ refl refl h.0) (digits_word ds h.1)

pub decimal_word : (n : ℕ) → n < 2 ^ 64 → is_word (decimal n) ≡ true
decimal_word n small = digits_word (decimal n) (decimal_is_IsNumeral n small).0.1

line_of_word : (s t : Bool) → (not s && not t) ≡ true → not t ≡ true
line_of_word true t h = let never : false ≡ true = h in cc
line_of_word false t h = h

pub word_line : (xs : List ℕ) → is_word xs ≡ true → is_line xs ≡ true
word_line [] h = refl
word_line (x ∷ xs) h =
    let p = both (not (x == 32) && not (x == 10)) (is_word xs) h in
    rw (line_of_word (x == 32) (x == 10) p.0) (word_line xs p.1)

pub line-append : (xs ys : List ℕ) → is_line xs ≡ true → is_line ys ≡ true → is_line (xs ++ ys) ≡ true
line-append [] ys p q = q
line-append (x ∷ xs) ys p q = let h = both (not (x == 10)) (is_line xs) p in rw h.0 (line-append xs ys h.1 q)

not_blank : (xs : List ℕ) → is_word (32 ∷ xs) ≡ true → ⊥
not_blank xs h = let never : false ≡ true = h in cc

-- two words that a blank ends
words_end : (xs ys us vs : List ℕ) → is_word xs ≡ true → is_word ys ≡ true → xs ++ 32 ∷ us ≡ ys ++ 32 ∷ vs → (xs ≡ ys) × (us ≡ vs)
words_end [] [] us vs p q e = (refl, cc)
words_end [] (y ∷ ys) us vs p q e = absurd (let blank : y ≡ 32 = cc in not_blank ys (subst (λ (b : ℕ). is_word (b ∷ ys) ≡ true) blank q))
words_end (x ∷ xs) [] us vs p q e = absurd (let blank : x ≡ 32 = cc in not_blank xs (subst (λ (b : ℕ). is_word (b ∷ xs) ≡ true) blank p))
words_end (x ∷ xs) (y ∷ ys) us vs p q e =
    let a = both (not (x == 32) && not (x == 10)) (is_word xs) p in
    let b = both (not (y == 32) && not (y == 10)) (is_word ys) q in
    let tails : xs ++ 32 ∷ us ≡ ys ++ 32 ∷ vs = cc in
    let head : x ≡ y = cc in
    let h = words_end xs ys us vs a.1 b.1 tails in
    (cc (head, h.0), h.1)

-- ---- the line of an entry

after_horizon : (xs ys : List ℕ) → codes "; horizon " ++ xs ≡ codes "; horizon " ++ ys → xs ≡ ys
after_horizon xs ys e = cc

after_conflicts : (xs ys : List ℕ) → codes "conflicts " ++ xs ≡ codes "conflicts " ++ ys → xs ≡ ys
after_conflicts xs ys e = cc

abbrev entry : ℕ → List ℕ → ℕ → Entry
entry horizon word conflicts = record { horizon = horizon; word = word; conflicts = conflicts }

-- a line is of one horizon, word and number of conflicts
same_line : (e : Entry) (horizon : ℕ) (word : List ℕ) (conflicts : ℕ) (h k : List ℕ) → IsEntry e → is_word word ≡ true → Writes h horizon → Writes k conflicts
    → entry_line e ≡ horizon_line h word k → e ≡ record { horizon = horizon; word = word; conflicts = conflicts }
same_line e horizon word conflicts h k is one h_writes k_writes same =
    let n = decimal_is_IsNumeral e.horizon is.horizon_small in
    let m = decimal_is_IsNumeral e.conflicts is.conflicts_small in
    let first = words_end (decimal e.horizon) h (e.word ++ (codes " conflicts " ++ decimal e.conflicts)) (word ++ (codes " conflicts " ++ k)) (digits_word (decimal e.horizon) n.0.1) (digits_word h h_writes.0.1)
    (after_horizon (decimal e.horizon ++ (codes " " ++ (e.word ++ (codes " conflicts " ++ decimal e.conflicts)))) (h ++ (codes " " ++ (word ++ (codes " conflicts " ++ k)))) same) in
    let second = words_end e.word word (codes "conflicts " ++ decimal e.conflicts) (codes "conflicts " ++ k) is.one_word one first.1 in
    let third = after_conflicts (decimal e.conflicts) k second.1 in
    let horizons : e.horizon ≡ horizon = sym n.1 ∙ ap (digits_value 10) first.0 ∙ h_writes.1 in
    let counts : e.conflicts ≡ conflicts = sym m.1 ∙ ap (digits_value 10) third ∙ k_writes.1 in
    ap (λ (n : ℕ). entry n e.word e.conflicts) horizons ∙ ap (λ (w : List ℕ). entry horizon w e.conflicts) second.0 ∙ ap (λ (n : ℕ). entry horizon word n) counts

pub entry_is_line : (e : Entry) → IsEntry e → is_line (entry_line e) ≡ true
entry_is_line e is =
    let n = word_line (decimal e.horizon) (decimal_word e.horizon is.horizon_small) in
    let m = word_line (decimal e.conflicts) (decimal_word e.conflicts is.conflicts_small) in
    let last = line-append (codes " conflicts ") (decimal e.conflicts) refl m in
    let word = line-append e.word (codes " conflicts " ++ decimal e.conflicts) (word_line e.word is.one_word) last in
    let numbered = line-append (decimal e.horizon) (codes " " ++ (e.word ++ (codes " conflicts " ++ decimal e.conflicts))) n word in
    numbered

-- ---- reports

pub all_lines : (entries : List Entry) (others : List (List ℕ)) → All IsEntry entries → list_all is_remark others ≡ true → list_all is_line (map entry_line entries ++ others) ≡ true
all_lines [] [] are rest = refl
all_lines [] (line ∷ lines) are rest =
    let h = both (is_remark line) (list_all is_remark lines) rest in
    let p = both (is_line line) (not (bytes_eq (take 10 line) (codes "; horizon "))) h.0 in
    rw p.0 (all_lines [] lines are h.1)
all_lines (e ∷ es) others are rest =
    rw (entry_is_line e (All-head IsEntry e es are)) (all_lines es others (All-tail IsEntry e es are) rest)

no_remark : (rest : List ℕ) → is_remark (codes "; horizon " ++ rest) ≡ true → ⊥
no_remark rest h =
    let p = both (is_line (codes "; horizon " ++ rest)) (not (bytes_eq (take 10 (codes "; horizon " ++ rest)) (codes "; horizon "))) h in
    let never : false ≡ true = p.1 in cc

-- what is said by a line that is this one
abbrev Tells : List Entry → ℕ → List ℕ → ℕ → List ℕ → List ℕ → List ℕ → Type 0
Tells entries horizon word conflicts h k line = line ≡ horizon_line h word k → Contains entries (record { horizon = horizon; word = word; conflicts = conflicts })

pub entries_said : (entries : List Entry) (others : List (List ℕ)) (horizon : ℕ) (word : List ℕ) (conflicts : ℕ) → All IsEntry entries → IsTrue (list_all is_remark others)
    → IsTrue (is_word word) → Says (report entries others) horizon word conflicts → Contains entries (record { horizon = horizon; word = word; conflicts = conflicts })
entries_said entries others horizon word conflicts are rest one says =
    let h = says.0 in
    let k = says.1 in
    let lines = map entry_line entries ++ others in
    let back = read_back lines (all_lines entries others are rest) in
    let told = Tells entries horizon word conflicts h k in
    All-contains told lines (horizon_line h word k)
    (All-append told (map entry_line entries) others (All-map told entry_line entries from_entries) (from_others others rest))
    (subst (λ (ls : List (List ℕ)). Contains ls (horizon_line h word k)) back says.4) refl
  where
    from_entries : All (λ e. Tells entries horizon word conflicts says.0 says.1 (entry_line e)) entries
    from_entries i d lt same =
        subst (Contains entries) (same_line (slice_index_or entries i d) horizon word conflicts says.0 says.1 (are i d lt) one says.2 says.3 same) (All-contains_itself entries i d lt)

    from_others : (lines : List (List ℕ)) → list_all is_remark lines ≡ true → All (Tells entries horizon word conflicts says.0 says.1) lines
    from_others [] r = All-nil (Tells entries horizon word conflicts says.0 says.1)
    from_others (line ∷ lines) r =
        let p = both (is_remark line) (list_all is_remark lines) r in
        All-cons (Tells entries horizon word conflicts says.0 says.1) line lines (λ same. absurd (no_remark (says.0 ++ (codes " " ++ (word ++ (codes " conflicts " ++ says.1)))) (subst (λ (l : List ℕ). is_remark l ≡ true) same p.0))) (from_others lines p.1)
