-- The lines of a text that goes on.
use Rattle.std.proofs.Common.{arith, ◌≡◌, ◌==◌, ◌+◌, ◌-◌, ◌<◌, ◌≤◌, inl, inr, zero, suc, take, drop, get_or, length-drop, append_assoc, ℕ, List, [], ◌∷◌, ◌++◌, length, Bool, true, false, refl, sym, ap, subst, ◌∙◌}
use Rattle.std.proofs.lemmas.List.{take_all, take-append-drop}
use Rattle.std.proofs.Math.Seq.{drop-cons}
use Rattle.std.proofs.lemmas.Bool.{eq-eqb}
use Rattle.std.proofs.lemmas.Bool.Decides.{eqb_tells}
use Rattle.std.proofs.lemmas.Grind.{take_at_read}
use Rattle.memchr.specs.Find.{Nowhere, Passes, is_byte}
use Rattle.sat_text.specs.Lines.{put_first, whole_lines, last_part, has_no_end}

-- the first byte of a text without an end of a line is none
first_no_end : (b : ℕ) (text : List ℕ) → has_no_end (b ∷ text) ≡ true → ((b == 10) ≡ false) × (has_no_end text ≡ true)
first_no_end b text e = by (b == 10) refl
  where
    by : (t : Bool) → (b == 10) ≡ t → ((b == 10) ≡ false) × (has_no_end text ≡ true)
    by true f = absurd (let never : false ≡ true = rw f at e in cc)
    by false f = (f, rw f at e)

-- a text without an end of a line has no whole line
none_whole : (text : List ℕ) → has_no_end text ≡ true → whole_lines text ≡ []
none_whole [] e = refl
none_whole (b ∷ text) e = let h = first_no_end b text e in rw (h.0, none_whole text h.1) refl

-- and it is its last part
all_last : (text : List ℕ) → whole_lines text ≡ [] → last_part text ≡ text
all_last [] e = refl
all_last (b ∷ text) e = by (b == 10) refl
  where
    by : (t : Bool) → (b == 10) ≡ t → last_part (b ∷ text) ≡ b ∷ text
    by true f = absurd (let never : [] ∷ whole_lines text ≡ [] = rw f at e in cc)
    by false f = rw f (rest (whole_lines text) refl (rw f at e))
      where
        rest : (lines : List (List ℕ)) → whole_lines text ≡ lines → put_first b lines ≡ [] → elim lines as (λ _. List ℕ) [ [] ↦ b ∷ text | line ∷ more ↦ last_part text ] ≡ b ∷ text
        rest [] g k = refl
        rest (line ∷ more) g k = absurd (let never : (b ∷ line) ∷ more ≡ [] = k in cc)

-- a line that is whole by a text of its own
one_line : (line others : List ℕ) → has_no_end line ≡ true → whole_lines (line ++ 10 ∷ others) ≡ line ∷ whole_lines others
one_line [] others e = refl
one_line (b ∷ line) others e = let h = first_no_end b line e in rw (h.0, one_line line others h.1) refl

one_last : (line others : List ℕ) → has_no_end line ≡ true → last_part (line ++ 10 ∷ others) ≡ last_part others
one_last [] others e = refl
one_last (b ∷ line) others e = let h = first_no_end b line e in rw (h.0, one_line line others h.1) (one_last line others h.1)

-- a text that goes on up to the end of a line has that line more, which began with its last part
pub lines_on : (text line others : List ℕ) → has_no_end line ≡ true → whole_lines (text ++ (line ++ 10 ∷ others)) ≡ whole_lines text ++ (last_part text ++ line) ∷ whole_lines others
lines_on [] line others e = one_line line others e
lines_on (b ∷ text) line others e = by (lines_on text line others e) (b == 10) refl
  where
    by : whole_lines (text ++ (line ++ 10 ∷ others)) ≡ whole_lines text ++ (last_part text ++ line) ∷ whole_lines others → (t : Bool) → (b == 10) ≡ t → whole_lines (b ∷ (text ++ (line ++ 10 ∷ others))) ≡ whole_lines (b ∷ text) ++ (last_part (b ∷ text) ++ line) ∷ whole_lines others
    by more true f = rw f (ap (λ (lines : List (List ℕ)). [] ∷ lines) more)
    by more false f = rw f (ap (put_first b) more ∙ rest (whole_lines text) refl)
      where
        rest : (lines : List (List ℕ)) → whole_lines text ≡ lines
            → put_first b (lines ++ (last_part text ++ line) ∷ whole_lines others)
            ≡ put_first b lines ++ ((elim lines as (λ _. List ℕ) [ [] ↦ b ∷ text | l ∷ more ↦ last_part text ]) ++ line) ∷ whole_lines others
        rest [] g = ap (λ (t : List ℕ). (b ∷ (t ++ line)) ∷ whole_lines others) (all_last text g)
        rest (l ∷ more) g = refl

-- what follows that end is its last part
pub last_on : (text line others : List ℕ) → has_no_end line ≡ true → last_part (text ++ (line ++ 10 ∷ others)) ≡ last_part others
last_on [] line others e = one_last line others e
last_on (b ∷ text) line others e = by (last_on text line others e) (b == 10) refl
  where
    by : last_part (text ++ (line ++ 10 ∷ others)) ≡ last_part others → (t : Bool) → (b == 10) ≡ t → last_part (b ∷ (text ++ (line ++ 10 ∷ others))) ≡ last_part others
    by more true f = rw f more
    by more false f = rw f (rest (whole_lines text) (lines_on text line others e))
      where
        rest : (lines : List (List ℕ)) → whole_lines (text ++ (line ++ 10 ∷ others)) ≡ lines ++ (last_part text ++ line) ∷ whole_lines others
            → elim (whole_lines (text ++ (line ++ 10 ∷ others))) as (λ _. List ℕ) [ [] ↦ b ∷ (text ++ (line ++ 10 ∷ others)) | l ∷ more ↦ last_part (text ++ (line ++ 10 ∷ others)) ] ≡ last_part others
        rest [] g = rw g more
        rest (l ∷ ls) g = rw g more

-- a text that goes on without an end of a line has the same lines, and its last part goes on
pub lines_same : (text rest : List ℕ) → has_no_end rest ≡ true → whole_lines (text ++ rest) ≡ whole_lines text
lines_same [] rest e = none_whole rest e
lines_same (b ∷ text) rest e = by (lines_same text rest e) (b == 10) refl
  where
    by : whole_lines (text ++ rest) ≡ whole_lines text → (t : Bool) → (b == 10) ≡ t → whole_lines (b ∷ (text ++ rest)) ≡ whole_lines (b ∷ text)
    by more true f = rw f (ap (λ (lines : List (List ℕ)). [] ∷ lines) more)
    by more false f = rw f (ap (put_first b) more)

pub last_more : (text rest : List ℕ) → has_no_end rest ≡ true → last_part (text ++ rest) ≡ last_part text ++ rest
last_more [] rest e = all_last rest (none_whole rest e)
last_more (b ∷ text) rest e = by (last_more text rest e) (b == 10) refl
  where
    by : last_part (text ++ rest) ≡ last_part text ++ rest → (t : Bool) → (b == 10) ≡ t → last_part (b ∷ (text ++ rest)) ≡ last_part (b ∷ text) ++ rest
    by more true f = rw f more
    by more false f = rw f (rw (lines_same text rest e) (lines (whole_lines text) refl))
      where
        lines : (ls : List (List ℕ)) → whole_lines text ≡ ls
            → elim ls as (λ _. List ℕ) [ [] ↦ b ∷ (text ++ rest) | l ∷ more ↦ last_part (text ++ rest) ] ≡ (elim ls as (λ _. List ℕ) [ [] ↦ b ∷ text | l ∷ more ↦ last_part text ]) ++ rest
        lines [] g = refl
        lines (l ∷ ls) g = more

-- the text up to the end of a line, and after it
pub text_on : (text end others : List ℕ) → (text ++ (end ++ 10 ∷ [])) ++ others ≡ text ++ (end ++ 10 ∷ others)
text_on text end others = append_assoc text (end ++ 10 ∷ []) others ∙ ap (λ (t : List ℕ). text ++ t) (append_assoc end (10 ∷ []) others)

-- the same where more comes after it
pub text_longer : (text end others more : List ℕ) → (text ++ (end ++ 10 ∷ others)) ++ more ≡ text ++ (end ++ 10 ∷ (others ++ more))
text_longer text end others more = append_assoc text (end ++ 10 ∷ others) more ∙ ap (λ (t : List ℕ). text ++ t) (append_assoc end (10 ∷ others) more)

-- ---- the first line of a text

-- no line ends in a text, or one does, and others follow
pub data Split (text : List ℕ) : Type 0 where
  no_end : has_no_end text ≡ true → Split text
  cut : (line others : List ℕ) → has_no_end line ≡ true → text ≡ line ++ 10 ∷ others → Split text

pub split_line : (text : List ℕ) → Split text
split_line [] = no_end refl
split_line (b ∷ text) = elim (eqb_tells b 10) [
  | inl (t, same) ↦ cut [] text refl (ap (λ (x : ℕ). x ∷ text) same)
  | inr (f, other) ↦ more f (split_line text)
]
  where
    more : (b == 10) ≡ false → Split text → Split (b ∷ text)
    more f (no_end none) = no_end (rw f none)
    more f (cut line others none is) = cut (b ∷ line) others (rw f none) (ap (λ (t : List ℕ). b ∷ t) is)

no_end_push : (text : List ℕ) (b : ℕ) → has_no_end text ≡ true → (b ≡ 10 → ⊥) → has_no_end (text ++ b ∷ []) ≡ true
no_end_push [] b e apart = elim (eqb_tells b 10) [
  | inl (t, same) ↦ absurd (apart same)
  | inr (f, other) ↦ rw f refl
]
no_end_push (c ∷ text) b e apart = let h = first_no_end c text e in rw h.0 (no_end_push text b h.1 apart)

-- one byte more that ends no line
pub no_end_more : (text : List ℕ) (i : ℕ) → i < length text → has_no_end (take i text) ≡ true → (get_or text i 0 ≡ 10 → ⊥) → has_no_end (take (i + 1) text) ≡ true
no_end_more text i less e apart = rw (take_at_read text i 0 less).1 (no_end_push (take i text) (get_or text i 0) e apart)

-- a text at a byte that ends a line
pub cut_at : (text : List ℕ) (i : ℕ) → i < length text → get_or text i 0 ≡ 10 → text ≡ take i text ++ 10 ∷ take (length text - (i + 1)) (drop (i + 1) text)
cut_at text i less is =
    let all : take (length text - (i + 1)) (drop (i + 1) text) ≡ drop (i + 1) text = take_all (length text - (i + 1)) (drop (i + 1) text) (omega (arith, length-drop (i + 1) text)) in
    let one : i + 1 ≡ suc i = omega arith in
    sym (take-append-drop i text) ∙ ap (λ (rest : List ℕ). take i text ++ rest) (drop-cons text i 0 less ∙ ap (λ (b : ℕ). b ∷ drop (suc i) text) is ∙ ap (λ (k : ℕ). 10 ∷ drop k text) (sym one) ∙ ap (λ (rest : List ℕ). 10 ∷ rest) (sym all))

-- a text that was met whole
pub no_end_all : (text : List ℕ) (i : ℕ) → length text ≤ i → has_no_end (take i text) ≡ true → has_no_end text ≡ true
no_end_all text i all e = rw (take_all i text all) at e

-- up to the first byte that ends a line no line ends
pub no_end_before : (text : List ℕ) (i : ℕ) → i ≤ length text → Nowhere (Passes (is_byte 10) text) 0 i → has_no_end (take i text) ≡ true
no_end_before text zero fits none = refl
no_end_before text (suc i) fits none =
    let one : i + 1 ≡ suc i = omega arith in
    let before = no_end_before text i (omega (arith, fits)) (λ k low less. none k low (omega (arith, less))) in
    subst (λ (n : ℕ). has_no_end (take n text) ≡ true) one
    (no_end_more text i (omega (arith, fits)) before (λ is. none i (omega arith) (omega arith) (eq-eqb (get_or text i 0) 10 is)))
