-- A file that is written as gaps and lists is read as the calls that these spell.
use Rattle.std.proofs.Common.{◌≡◌, ℕ, ◌+◌, ◌==◌, true, false, cond, List, [], ◌∷◌, ◌++◌, length, map, Result, Ok, Err, refl, ap, ◌∙◌, append_assoc, arith, length-append, inl, inr, append-nil}
use Rattle.std.proofs.lemmas.Bool.{and_parts, eqb-true}
use Rattle.std.specs.Prelude.{IsTrue}
use Rattle.std.specs.List.{list_all}
use Rattle.pd_sexp.specs.Bytes.{open_paren, close_paren, semicolon, line_feed, is_blank, is_letter, lowered}
use Rattle.pd_sexp.specs.Tree.{list, trees_of}
use Rattle.pd_sexp.specs.File.{IsGap, IsComment, StopsWord, IsTree, AreItems}
use Rattle.pd_sexp.specs.Fault.{uncommented, comment_blanked}
use Rattle.pd_model.specs.declared.calls.Call.{Call}
use Rattle.pd_model.specs.declared.parts.Parts.{Parts}
use Rattle.pd_words.specs.declared.named.Named.{Named}
use Rattle.pd_plan.specs.declared.lists.WordList.{WordList}
use Rattle.pd_plan.specs.Fault.{Fault, syntax}
use Rattle.pd_words.specs.First.{◌>>=◌}
use Rattle.pd_plan.specs.Tokens.{Token, word, sign, joined, tokens}
use Rattle.pd_plan.specs.WordLists.{word_list, lists, list_on}
use Rattle.pd_plan.specs.PlanFile.{call_from, calls_of, plan_file}
use Rattle.pd_plan.specs.own.Spells.{tree_of_word, SpellsFrom, Spells}
use Rattle.pd_sexp.proofs.published.Whole.{choice, stops-letter, listed_parts, listed_length}
use Rattle.pd_plan.proofs.Steps.{letter_tokens, goes_on, ends}

-- the tokens of bytes that begin outside a comment
abbrev marks : ℕ → List ℕ → List Token
marks o bytes = tokens o (uncommented bytes)

-- the tokens of bytes that begin in a comment
abbrev comment_marks : ℕ → List ℕ → List Token
comment_marks o bytes = tokens o (comment_blanked bytes)

-- ---- gaps

-- a blank, a semicolon, a byte of a comment, its last one
blank_mark : (o b : ℕ) (bs : List ℕ) → (b == semicolon) ≡ false → is_blank b ≡ true → marks o (b ∷ bs) ≡ marks (o + 1) bs
blank_mark o b bs plain blank =
    ap (λ t. tokens o (cond t (32 ∷ comment_blanked bs) (b ∷ uncommented bs))) plain
    ∙ ap (λ t. cond t (marks (o + 1) bs) (cond (is_letter b) (joined o (lowered b ∷ []) (o + 1) (marks (o + 1) bs)) (sign o b ∷ marks (o + 1) bs))) blank

semicolon_mark : (o b : ℕ) (bs : List ℕ) → (b == semicolon) ≡ true → marks o (b ∷ bs) ≡ comment_marks (o + 1) bs
semicolon_mark o b bs is = ap (λ t. tokens o (cond t (32 ∷ comment_blanked bs) (b ∷ uncommented bs))) is

comment_mark : (o b : ℕ) (bs : List ℕ) → (b == line_feed) ≡ false → comment_marks o (b ∷ bs) ≡ comment_marks (o + 1) bs
comment_mark o b bs is = ap (λ t. tokens o (cond t (b ∷ uncommented bs) (32 ∷ comment_blanked bs))) is

feed_mark : (o b : ℕ) (bs : List ℕ) → (b == line_feed) ≡ true → comment_marks o (b ∷ bs) ≡ marks (o + 1) bs
feed_mark o b bs is = rw (eqb-true b line_feed is) refl

mutual
  gap_marks : (o : ℕ) (g rest : List ℕ) → IsGap false g → marks o (g ++ rest) ≡ marks (o + length g) rest
  gap_marks o [] rest h = ap (λ n. marks n rest) (omega arith)
  gap_marks o (b ∷ g) rest h =
      let longer : o + 1 + length g ≡ o + length (b ∷ g) = omega arith in
      elim (choice (b == semicolon) h) [
        | inl e ↦ semicolon_mark o b (g ++ rest) e.0 ∙ rw longer at (comment_gap_marks (o + 1) g rest e.1)
        | inr e ↦ blank_mark o b (g ++ rest) e.0 e.1.0 ∙ rw longer at (gap_marks (o + 1) g rest e.1.1)
      ]

  comment_gap_marks : (o : ℕ) (g rest : List ℕ) → IsComment false g → comment_marks o (g ++ rest) ≡ marks (o + length g) rest
  comment_gap_marks o [] rest h = let never : false ≡ true = h in cc
  comment_gap_marks o (b ∷ g) rest h =
      let longer : o + 1 + length g ≡ o + length (b ∷ g) = omega arith in
      elim (choice (b == line_feed) h) [
        | inl e ↦ feed_mark o b (g ++ rest) e.0 ∙ rw longer at (gap_marks (o + 1) g rest e.1)
        | inr e ↦ comment_mark o b (g ++ rest) e.0 ∙ rw longer at (comment_gap_marks (o + 1) g rest e.1)
      ]

-- the last gap, whose comment may end with the file
mutual
  no_marks : (o : ℕ) (g : List ℕ) → IsGap true g → marks o g ≡ []
  no_marks o [] h = refl
  no_marks o (b ∷ g) h = elim (choice (b == semicolon) h) [
    | inl e ↦ semicolon_mark o b g e.0 ∙ no_comment_marks (o + 1) g e.1
    | inr e ↦ blank_mark o b g e.0 e.1.0 ∙ no_marks (o + 1) g e.1.1
  ]

  no_comment_marks : (o : ℕ) (g : List ℕ) → IsComment true g → comment_marks o g ≡ []
  no_comment_marks o [] h = refl
  no_comment_marks o (b ∷ g) h = elim (choice (b == line_feed) h) [
    | inl e ↦ feed_mark o b g e.0 ∙ no_marks (o + 1) g e.1
    | inr e ↦ comment_mark o b g e.0 ∙ no_comment_marks (o + 1) g e.1
  ]

-- ---- words

-- the letters of a word after others, up to a byte that is no letter
word_marks : (start o : ℕ) (before w rest : List ℕ) → IsTrue (list_all is_letter w) → StopsWord rest
    → joined start before o (marks o (w ++ rest)) ≡ word start (before ++ map lowered w) ∷ marks (o + length w) rest
word_marks start o before [] [] are stops = rw (append-nil before) refl
word_marks start o before [] (b ∷ rest) are stops =
    let still : o + length (let none : List ℕ = [] in none) ≡ o = omega arith in
    rw (append-nil before, still) (ends start before o b rest (stops-letter b rest stops))
word_marks start o before (b ∷ w) rest are stops =
    let letters = and_parts (is_letter b) (list_all is_letter w) are in
    let longer : o + 1 + length w ≡ o + length (b ∷ w) = omega arith in
    let whole : (before ++ lowered b ∷ []) ++ map lowered w ≡ before ++ (lowered b ∷ map lowered w) = append_assoc before (lowered b ∷ []) (map lowered w) in
    ap (joined start before o) (letter_tokens o b (w ++ rest) letters.0)
    ∙ goes_on start before o (lowered b) (marks (o + 1) (w ++ rest))
    ∙ rw (longer, whole) at (word_marks start (o + 1) (before ++ lowered b ∷ []) w rest letters.1 stops)

first_word : (o : ℕ) (w : Named) (item rest : List ℕ) → IsTree (tree_of_word w) o item → StopsWord rest → marks o (item ++ rest) ≡ word w.at w.name ∷ marks (o + length item) rest
first_word o w [] rest is stops = absurd (is.1 refl)
first_word o w (b ∷ item) rest is stops =
    let letters = and_parts (is_letter b) (list_all is_letter item) is.2 in
    let longer : o + 1 + length item ≡ o + length (b ∷ item) = omega arith in
    let read = letter_tokens o b (item ++ rest) letters.0 ∙ word_marks o (o + 1) (lowered b ∷ []) item rest letters.1 stops in
    rw (is.0, is.3) (rw longer at read)

stops_before : (xs ys : List ℕ) → StopsWord xs → StopsWord (xs ++ close_paren ∷ ys)
stops_before [] ys h = λ l. let f : false ≡ true = l in cc
stops_before (x ∷ xs) ys h = h

-- ---- lists

-- the words of a list, up to its closing parenthesis
words_marks : (end start o : ℕ) (before ws : List Named) (inner rest : List ℕ) → AreItems (trees_of (map tree_of_word ws)) o inner
    → list_on end start before (marks o (inner ++ close_paren ∷ rest)) ≡ list_on end start (before ++ ws) (marks (o + length inner) (close_paren ∷ rest))
words_marks end start o before [] inner rest are =
    rw (append-nil before) (ap (list_on end start before) (gap_marks o inner (close_paren ∷ rest) are))
words_marks end start o before (w ∷ ws) inner rest are =
    let gap = are.0 in
    let item = are.1 in
    let tail = are.2 in
    let parts = listed_parts gap item tail inner rest are.3 in
    let long = listed_length o gap item tail inner are.3 in
    let one = gap_marks o gap (item ++ (tail ++ close_paren ∷ rest)) are.4 in
    let two = first_word (o + length gap) w item (tail ++ close_paren ∷ rest) are.5 (stops_before tail rest are.6) in
    let three = words_marks end start (o + length gap + length item) (before ++ w ∷ []) ws tail rest are.7 in
    let whole : (before ++ w ∷ []) ++ ws ≡ before ++ (w ∷ ws) = append_assoc before (w ∷ []) ws in
    ap (λ xs. list_on end start before (marks o xs)) parts ∙ ap (list_on end start before) (one ∙ two) ∙ rw (long, whole) at three

-- a list that spells a call has a word
has_word : (p : Parts) (at : ℕ) (ws : List Named) (call : Call) → call_from p at ws ≡ Ok call → (length ws == 0) ≡ false
has_word p at [] call is = absurd cc
has_word p at (w ∷ ws) call is = grind arith

list_marks : (end o : ℕ) (ws : List Named) (item rest : List ℕ) → IsTree (list o (trees_of (map tree_of_word ws))) o item → (length ws == 0) ≡ false
    → lists end (marks o (item ++ rest)) ≡ (lists end (marks (o + length item) rest) >>= λ more. Ok (word_list o ws ∷ more))
list_marks end o ws item rest is some =
    let inner = is.1.0 in
    let parts : item ++ rest ≡ open_paren ∷ (inner ++ (close_paren ∷ rest)) = ap (λ xs. xs ++ rest) is.1.1 ∙ ap (λ xs. open_paren ∷ xs) (append_assoc inner (close_paren ∷ []) rest) in
    let read = words_marks end o (o + 1) [] ws inner rest is.1.2 in
    let all : o + 1 + length inner + 1 ≡ o + length item = omega (arith, ap length is.1.1, length-append inner (close_paren ∷ [])) in
    let closes = ap (λ t. cond t (Err (syntax o)) (lists end (marks (o + 1 + length inner + 1) rest) >>= λ more. Ok (word_list o ws ∷ more))) some in
    rw parts (read ∙ closes ∙ rw all refl)

-- ---- files

-- from an offset on
spelled_from : (p : Parts) (end o : ℕ) (bytes : List ℕ) (calls : List Call) → SpellsFrom p o bytes calls → (lists end (marks o bytes) >>= calls_of p) ≡ Ok calls
spelled_from p end o bytes [] h = ap (λ ts. lists end ts >>= calls_of p) (no_marks o bytes h)
spelled_from p end o bytes (call ∷ calls) h =
    let gap = h.0 in
    let item = h.1 in
    let rest = h.2 in
    let ws = h.3 in
    let one = gap_marks o gap (item ++ rest) h.5 in
    let two = list_marks end (o + length gap) ws item rest h.6 (has_word p (o + length gap) ws call h.7) in
    let three = spelled_from p end (o + length gap + length item) rest calls h.8 in
    ap (λ xs. lists end (marks o xs) >>= calls_of p) h.4 ∙ ap (λ ts. lists end ts >>= calls_of p) one ∙ ap (λ r. r >>= calls_of p) two
    ∙ more (lists end (marks (o + length gap + length item) rest)) three
  where
    more : (later : Result (List WordList) Fault) → (later >>= calls_of p) ≡ Ok calls → ((later >>= λ ls. Ok (word_list (o + length h.0) h.3 ∷ ls)) >>= calls_of p) ≡ Ok (call ∷ calls)
    more (Ok ls) is = rw (h.7, is) refl
    more (Err e) is = absurd cc

-- what is spelled is what is read
pub spelled : (p : Parts) (bytes : List ℕ) (calls : List Call) → Spells p bytes calls → plan_file p bytes ≡ Ok calls
spelled p bytes calls h = spelled_from p (length bytes) 0 bytes calls h
