-- The bytes one after another lead to what the tokens of all of them say.
use Rattle.std.proofs.Common.{◌≡◌, ℕ, ◌+◌, ◌<◌, Bool, true, false, cond, List, [], ◌∷◌, ◌++◌, length, Result, Ok, Err, Option, Some, None, refl, sym, ap, ◌∙◌, append_assoc, arith}
use Rattle.std.specs.Prelude.{◌==◌, drop, slice_index}
use Rattle.std.proofs.lemmas.Bool.{eqb-true, eq-eqb}
use Rattle.std.proofs.lemmas.List.{drop_more}
use Rattle.pd_sexp.specs.Bytes.{open_paren, close_paren, semicolon, line_feed, is_blank, is_letter, lowered}
use Rattle.pd_sexp.specs.Fault.{uncommented, comment_blanked}
use Rattle.pd_sexp.proofs.published.Bytes.{letter-blank, letter-semicolon}
use Rattle.pd_words.specs.Typed.{named}
use Rattle.pd_words.specs.declared.named.Named.{Named}
use Rattle.pd_plan.specs.declared.lists.WordList.{WordList}
use Rattle.pd_plan.specs.Fault.{Fault, syntax}
use Rattle.pd_words.specs.First.{◌>>=◌, after, FailsWith}
use Rattle.pd_plan.specs.Tokens.{Token, opening, closing, word, wrong, sign, joined, tokens}
use Rattle.pd_plan.specs.WordLists.{word_list, lists, list_on, word_lists}
use Rattle.pd_plan.specs.own.Progress as at
use Rattle.pd_plan.specs.own.Progress.{State, Place, between, inside, closed, step, from_place, answer}

-- ---- tests

same : (n : ℕ) → (n == n) ≡ true
same n = eq-eqb n n refl

pub after-one : {A : Type 0} (front : List A) (x : A) (read : Result (List A) Fault) → after front (read >>= λ more. Ok (x ∷ more)) ≡ after (front ++ x ∷ []) read
after-one front x (Ok more) = ap (λ ys. let whole : Result (List _) Fault = Ok ys in whole) (sym (append_assoc front (x ∷ []) more))
after-one front x (Err e) = refl

-- ---- words

pub goes_on : (first : ℕ) (letters : List ℕ) (o b : ℕ) (ts : List Token) → joined first letters o (joined o (b ∷ []) (o + 1) ts) ≡ joined first (letters ++ b ∷ []) (o + 1) ts
goes_on first letters o b [] = rw (same o) refl
goes_on first letters o b (opening p ∷ ts) = rw (same o) refl
goes_on first letters o b (closing p ∷ ts) = rw (same o) refl
goes_on first letters o b (wrong p ∷ ts) = rw (same o) refl
goes_on first letters o b (word p more ∷ ts) = by_test (p == o + 1)
  where
    by_test : (t : Bool) → joined first letters o (cond t (word o (b ∷ more) ∷ ts) (word o (b ∷ []) ∷ word p more ∷ ts)) ≡ cond t (word first ((letters ++ b ∷ []) ++ more) ∷ ts) (word first (letters ++ b ∷ []) ∷ word p more ∷ ts)
    by_test true = rw (same o, append_assoc letters (b ∷ []) more) refl
    by_test false = rw (same o) refl

-- the word that these letters begin starts where they do
starts : (first : ℕ) (letters : List ℕ) (o next : ℕ) (l : List ℕ) (ts : List Token) → (o == next) ≡ false → joined first letters next (joined o l (o + 1) ts) ≡ word first letters ∷ joined o l (o + 1) ts
starts first letters o next l [] h = rw h refl
starts first letters o next l (opening p ∷ ts) h = rw h refl
starts first letters o next l (closing p ∷ ts) h = rw h refl
starts first letters o next l (wrong p ∷ ts) h = rw h refl
starts first letters o next l (word p more ∷ ts) h = by_test (p == o + 1)
  where
    by_test : (t : Bool) → joined first letters next (cond t (word o (l ++ more) ∷ ts) (word o l ∷ word p more ∷ ts)) ≡ word first letters ∷ cond t (word o (l ++ more) ∷ ts) (word o l ∷ word p more ∷ ts)
    by_test true = rw h refl
    by_test false = rw h refl

sign_apart : (first : ℕ) (letters : List ℕ) (o next b : ℕ) (ts : List Token) → joined first letters next (sign o b ∷ ts) ≡ word first letters ∷ sign o b ∷ ts
sign_apart first letters o next b ts = by_tests (b == open_paren) (b == close_paren)
  where
    by_tests : (p q : Bool) → joined first letters next (cond p (opening o) (cond q (closing o) (wrong o)) ∷ ts) ≡ word first letters ∷ cond p (opening o) (cond q (closing o) (wrong o)) ∷ ts
    by_tests true q = refl
    by_tests false true = refl
    by_tests false false = refl

-- no word of bytes further on goes on from the letters
further : (first : ℕ) (letters : List ℕ) (next o : ℕ) (bytes : List ℕ) → next < o → joined first letters next (tokens o bytes) ≡ word first letters ∷ tokens o bytes
further first letters next o [] h = refl
further first letters next o (b ∷ bs) h = by_tests (is_blank b) (is_letter b) (further first letters next (o + 1) bs (omega (arith, h)))
  where
    by_tests : (p q : Bool) → joined first letters next (tokens (o + 1) bs) ≡ word first letters ∷ tokens (o + 1) bs
        → joined first letters next (cond p (tokens (o + 1) bs) (cond q (joined o (lowered b ∷ []) (o + 1) (tokens (o + 1) bs)) (sign o b ∷ tokens (o + 1) bs)))
        ≡ word first letters ∷ cond p (tokens (o + 1) bs) (cond q (joined o (lowered b ∷ []) (o + 1) (tokens (o + 1) bs)) (sign o b ∷ tokens (o + 1) bs))
    by_tests true q later = later
    by_tests false true later = starts first letters o next (lowered b ∷ []) (tokens (o + 1) bs) (grind (arith, h))
    by_tests false false later = sign_apart first letters o next b (tokens (o + 1) bs)

-- a byte that is no letter ends the word
pub ends : (first : ℕ) (letters : List ℕ) (o b : ℕ) (bs : List ℕ) → is_letter b ≡ false → joined first letters o (tokens o (uncommented (b ∷ bs))) ≡ word first letters ∷ tokens o (uncommented (b ∷ bs))
ends first letters o b bs h = by_semicolon (b == semicolon)
  where
    by_blank : (p q : Bool) → q ≡ false → joined first letters o (cond p (tokens (o + 1) (uncommented bs)) (cond q (joined o (lowered b ∷ []) (o + 1) (tokens (o + 1) (uncommented bs))) (sign o b ∷ tokens (o + 1) (uncommented bs))))
        ≡ word first letters ∷ cond p (tokens (o + 1) (uncommented bs)) (cond q (joined o (lowered b ∷ []) (o + 1) (tokens (o + 1) (uncommented bs))) (sign o b ∷ tokens (o + 1) (uncommented bs)))
    by_blank true q e = further first letters o (o + 1) (uncommented bs) (omega arith)
    by_blank false true e = cc
    by_blank false false e = sign_apart first letters o o b (tokens (o + 1) (uncommented bs))

    by_semicolon : (t : Bool) → joined first letters o (tokens o (cond t (32 ∷ comment_blanked bs) (b ∷ uncommented bs))) ≡ word first letters ∷ tokens o (cond t (32 ∷ comment_blanked bs) (b ∷ uncommented bs))
    by_semicolon true = further first letters o (o + 1) (comment_blanked bs) (omega arith)
    by_semicolon false = by_blank (is_blank b) (is_letter b) h

-- a letter is joined to what comes after it
pub letter_tokens : (o b : ℕ) (bs : List ℕ) → is_letter b ≡ true → tokens o (uncommented (b ∷ bs)) ≡ joined o (lowered b ∷ []) (o + 1) (tokens (o + 1) (uncommented bs))
letter_tokens o b bs is =
    ap (λ t. tokens o (cond t (32 ∷ comment_blanked bs) (b ∷ uncommented bs))) (letter-semicolon b is) ∙ second (is_blank b) (is_letter b) (letter-blank b is) is
  where
    second : (p q : Bool) → p ≡ false → q ≡ true
        → cond p (tokens (o + 1) (uncommented bs)) (cond q (joined o (lowered b ∷ []) (o + 1) (tokens (o + 1) (uncommented bs))) (sign o b ∷ tokens (o + 1) (uncommented bs))) ≡ joined o (lowered b ∷ []) (o + 1) (tokens (o + 1) (uncommented bs))
    second true q e f = cc
    second false true e f = refl
    second false false e f = cc

-- ---- bytes outside words

stray_word : (end o : ℕ) (l : List ℕ) (next : ℕ) (ts : List Token) → lists end (joined o l next ts) ≡ Err (syntax o)
stray_word end o l next [] = refl
stray_word end o l next (opening p ∷ ts) = refl
stray_word end o l next (closing p ∷ ts) = refl
stray_word end o l next (wrong p ∷ ts) = refl
stray_word end o l next (word p more ∷ ts) = by_test (p == next)
  where
    by_test : (t : Bool) → lists end (cond t (word o (l ++ more) ∷ ts) (word o l ∷ word p more ∷ ts)) ≡ Err (syntax o)
    by_test true = refl
    by_test false = refl

after_list : (end : ℕ) (done : List WordList) (start : ℕ) (words : List Named) (o : ℕ) (bs : List ℕ)
    → after done (list_on end start words (closing o ∷ tokens (o + 1) (uncommented bs))) ≡ (closed done start words >>= λ t. answer end t (o + 1) bs)
after_list end done start words o bs = by_test (length words == 0)
  where
    by_test : (t : Bool) → after done (cond t (Err (syntax start)) (lists end (tokens (o + 1) (uncommented bs)) >>= λ more. Ok (word_list start words ∷ more)))
        ≡ (cond t (Err (syntax start)) (Ok (at.gap (done ++ word_list start words ∷ []) between)) >>= λ t. answer end t (o + 1) bs)
    by_test true = refl
    by_test false = after-one done (word_list start words) (lists end (tokens (o + 1) (uncommented bs)))

module _ (end : ℕ) (done : List WordList) (o b : ℕ) (bs : List ℕ) where
  -- between lists, by the kind of the byte: of a word, an opening or a closing one
  between_is : (q r s : Bool) → (r ≡ true → q ≡ false)
      → after done (lists end (cond q (joined o (lowered b ∷ []) (o + 1) (tokens (o + 1) (uncommented bs))) (cond r (opening o) (cond s (closing o) (wrong o)) ∷ tokens (o + 1) (uncommented bs))))
      ≡ (cond r (Ok (at.gap done (inside o []))) (Err (syntax o)) >>= λ t. answer end t (o + 1) bs)
  between_is true true s opens = let no = opens refl in cc
  between_is false true s opens = refl
  between_is true false s opens = ap (after done) (stray_word end o (lowered b ∷ []) (o + 1) (tokens (o + 1) (uncommented bs)))
  between_is false false true opens = refl
  between_is false false false opens = refl

  inside_is : (start : ℕ) (words : List Named) (q r s : Bool) → (r ≡ true → s ≡ false) → (s ≡ true → q ≡ false) → (r ≡ true → q ≡ false)
      → after done (list_on end start words (cond q (joined o (lowered b ∷ []) (o + 1) (tokens (o + 1) (uncommented bs))) (cond r (opening o) (cond s (closing o) (wrong o)) ∷ tokens (o + 1) (uncommented bs))))
      ≡ (cond s (closed done start words) (cond q (Ok (at.word done start words o (lowered b ∷ []))) (Err (syntax o))) >>= λ t. answer end t (o + 1) bs)
  inside_is start words true true s one close opens = let no = opens refl in cc
  inside_is start words true false true one close opens = let no = close refl in cc
  inside_is start words true false false one close opens = refl
  inside_is start words false true true one close opens = let no = one refl in cc
  inside_is start words false true false one close opens = refl
  inside_is start words false false true one close opens = after_list end done start words o bs
  inside_is start words false false false one close opens = refl

  token_is : (place : Place) → after done (from_place end place (cond (is_letter b) (joined o (lowered b ∷ []) (o + 1) (tokens (o + 1) (uncommented bs))) (sign o b ∷ tokens (o + 1) (uncommented bs))))
      ≡ (at.token done place o b >>= λ t. answer end t (o + 1) bs)
  token_is between = between_is (is_letter b) (b == open_paren) (b == close_paren) (λ e. rw (eqb-true b open_paren e) refl)
  token_is (inside start words) = inside_is start words (is_letter b) (b == open_paren) (b == close_paren) (λ e. rw (eqb-true b open_paren e) refl) (λ e. rw (eqb-true b close_paren e) refl) (λ e. rw (eqb-true b open_paren e) refl)

  plain_is : (place : Place) (p : Bool) → after done (from_place end place (cond p (tokens (o + 1) (uncommented bs)) (cond (is_letter b) (joined o (lowered b ∷ []) (o + 1) (tokens (o + 1) (uncommented bs))) (sign o b ∷ tokens (o + 1) (uncommented bs)))))
      ≡ (cond p (Ok (at.gap done place)) (at.token done place o b) >>= λ t. answer end t (o + 1) bs)
  plain_is place true = refl
  plain_is place false = token_is place

  by_semicolon : (place : Place) (t : Bool) → (b == semicolon) ≡ t → after done (from_place end place (tokens o (uncommented (b ∷ bs)))) ≡ (at.outside done place o b >>= λ t. answer end t (o + 1) bs)
  by_semicolon place true is = rw (eqb-true b semicolon is) refl
  by_semicolon place false is = rw is (plain_is place (is_blank b))

  pub outside_is : (place : Place) → after done (from_place end place (tokens o (uncommented (b ∷ bs)))) ≡ (at.outside done place o b >>= λ t. answer end t (o + 1) bs)
  outside_is place = by_semicolon place (b == semicolon) refl

  in_comment : (place : Place) (t : Bool) → (b == line_feed) ≡ t → answer end (at.comment done place) o (b ∷ bs) ≡ (step (at.comment done place) o b >>= λ t. answer end t (o + 1) bs)
  in_comment place true is = rw (eqb-true b line_feed is) refl
  in_comment place false is = rw is refl

  in_word : (start : ℕ) (words : List Named) (first : ℕ) (letters : List ℕ) (t : Bool) → is_letter b ≡ t
      → answer end (at.word done start words first letters) o (b ∷ bs) ≡ (step (at.word done start words first letters) o b >>= λ t. answer end t (o + 1) bs)
  in_word start words first letters true is =
      ap (λ ts. after done (list_on end start words (joined first letters o ts))) (letter_tokens o b bs is)
      ∙ ap (λ ts. after done (list_on end start words ts)) (goes_on first letters o (lowered b) (tokens (o + 1) (uncommented bs)))
      ∙ sym (ap (λ t. cond t (Ok (at.word done start words first (letters ++ lowered b ∷ []))) (at.outside done (inside start (words ++ named first letters ∷ [])) o b) >>= λ s. answer end s (o + 1) bs) is)
  in_word start words first letters false is =
      let ended = ap (λ ts. after done (list_on end start words ts)) (ends first letters o b bs is) in
      ended ∙ outside_is (inside start (words ++ named first letters ∷ []))
      ∙ sym (ap (λ t. cond t (Ok (at.word done start words first (letters ++ lowered b ∷ []))) (at.outside done (inside start (words ++ named first letters ∷ [])) o b) >>= λ s. answer end s (o + 1) bs) is)

-- one byte, and then the others
pub one_byte : (end : ℕ) (s : State) (o b : ℕ) (bs : List ℕ) → answer end s o (b ∷ bs) ≡ (step s o b >>= λ t. answer end t (o + 1) bs)
one_byte end (at.gap done place) o b bs = outside_is end done o b bs place
one_byte end (at.comment done place) o b bs = in_comment end done o b bs place (b == line_feed) refl
one_byte end (at.word done start words first letters) o b bs = in_word end done o b bs start words first letters (is_letter b) refl

-- ---- the loop over the bytes

-- what is left of the bytes leads to the lists of all of them
abbrev pub Reached : List ℕ → ℕ → State → Type 0
Reached bytes o s = answer (length bytes) s o (drop o bytes) ≡ word_lists bytes

module _ (bytes : List ℕ) (o : ℕ) (s : State) (reached : Reached bytes o s) where
  next_byte : o < length bytes → (step s o (slice_index bytes o) >>= λ t. answer (length bytes) t (o + 1) (drop (o + 1) bytes)) ≡ word_lists bytes
  next_byte within = sym (one_byte (length bytes) s o (slice_index bytes o) (drop (o + 1) bytes)) ∙ ap (answer (length bytes) s o) (sym (drop_more bytes o 0 within)) ∙ reached

  pub reached_next : (t : State) → o < length bytes → step s o (slice_index bytes o) ≡ Ok t → Reached bytes (o + 1) t
  reached_next t within is = rw is at (next_byte within)

  pub fails_there : (fault : Option Fault) → o < length bytes → FailsWith fault (step s o (slice_index bytes o)) → FailsWith fault (word_lists bytes)
  fails_there (Some fault) within is = sym (rw is at (next_byte within))
  fails_there None within is = tt
