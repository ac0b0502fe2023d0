-- How many lists are open: the reader's count is that of the parentheses outside comments.
use Rattle.std.proofs.Common.{◌≡◌, ◌+◌, ◌==◌, ℕ, suc, Bool, true, false, List, [], ◌∷◌, ◌++◌, length, Option, Some, None, refl, sym, ap, subst, ◌∙◌, arith, cond}
use Rattle.std.proofs.lemmas.Bool.{eqb-true}
use Rattle.std.specs.Prelude.{count_by, slice_index}
use Rattle.std.proofs.lemmas.List.{get_or-append-add}
use Rattle.std.proofs.lemmas.List.Sums.{sum_by-cons}
use Rattle.pd_sexp.specs.Bytes.{open_paren, close_paren, semicolon, line_feed, is_letter, lowered}
use Rattle.pd_sexp.specs.Tree.{word}
use Rattle.pd_sexp.specs.Fault.{uncommented, comment_blanked, level_after}
use Rattle.pd_sexp.specs.Progress as at
use Rattle.pd_sexp.specs.Progress.{Frame, Place, State, fresh, with_item, tree_of, closed, step, run, then_run, level_of, level_in, in_comment}
use Rattle.pd_sexp.proofs.published.Bytes.{letter-blank, letter-semicolon, letter-open, letter-close, blank-semicolon, blank-open, blank-close}
use Rattle.pd_sexp.proofs.published.Whole.{blank-step, semicolon-step, letter-step}
use Rattle.pd_sexp.proofs.Parts.{Kind, blank, opens_comment, opens, closes, letter, other, kind_of, other-step}

-- the bytes without comments, from inside a comment or not
abbrev seen : Bool → List ℕ → List ℕ
seen false bytes = uncommented bytes
seen true bytes = comment_blanked bytes

abbrev opening : ℕ → ℕ
opening b = cond (b == open_paren) 1 0

abbrev closing : ℕ → ℕ
closing b = cond (b == close_paren) 1 0

-- what one byte does to the text without comments and to the level
record Steps (state : State) (b : ℕ) (next : State) : Type 0 where
  shown : ℕ
  seen_is : (bs : List ℕ) → seen (in_comment state) (b ∷ bs) ≡ shown ∷ seen (in_comment next) bs
  levels : level_of state + opening shown ≡ level_of next + closing shown

to_next : (state : State) (b : ℕ) (next found : State) → Some next ≡ Some found → Steps state b next → Steps state b found
to_next state b next found same h = subst (λ (s : State). Steps state b s) (let e : next ≡ found = cc in e) h

never : {A : Type 0} (s : State) → None ≡ Some s → A
never s h = absurd (let f : ⊥ = cc in f)

-- a byte that is shown as it is, outside comments
plain : (state : State) (b : ℕ) (next : State) → in_comment state ≡ false → in_comment next ≡ false → (b == semicolon) ≡ false
    → level_of state + opening b ≡ level_of next + closing b → Steps state b next
plain state b next was is no_comment levels = record { shown = b; seen_is = λ bs. rw (was, is, no_comment) refl; levels = levels }

closed_level : (frame : Frame) (outer : List Frame) → suc (length outer) ≡ level_in (closed frame outer) + 1
closed_level frame [] = refl
closed_level frame (parent ∷ outer) = omega arith

gap_steps : (place : Place) (offset b : ℕ) (next : State) → Kind b → step (at.gap place) offset b ≡ Some next → Steps (at.gap place) b next
gap_steps place offset b next (blank is) goes =
    to_next (at.gap place) b (at.gap place) next (rw (blank-step place offset b is) at goes)
    (plain (at.gap place) b (at.gap place) refl refl (blank-semicolon b is) (rw (blank-open b is, blank-close b is) refl))
gap_steps place offset b next (opens_comment is) goes =
    to_next (at.gap place) b (at.comment place) next (rw (semicolon-step place offset b is) at goes)
    (record { shown = 32; seen_is = λ bs. rw is refl; levels = refl })
gap_steps at.before offset b next (opens is) goes =
    to_next (at.gap at.before) b (at.gap (at.inside (fresh offset) [])) next (rw is at goes) (plain (at.gap at.before) b (at.gap (at.inside (fresh offset) [])) refl refl (rw is refl) (rw is refl))
gap_steps (at.inside frame outer) offset b next (opens is) goes =
    to_next (at.gap (at.inside frame outer)) b (at.gap (at.inside (fresh offset) (frame ∷ outer))) next (rw is at goes)
    (plain (at.gap (at.inside frame outer)) b (at.gap (at.inside (fresh offset) (frame ∷ outer))) refl refl (rw is refl) (rw is (let e : suc (length outer) + 1 ≡ suc (suc (length outer)) + 0 = omega arith in e)))
gap_steps (at.after frame) offset b next (opens is) goes = never next (rw is at goes)
gap_steps at.before offset b next (closes is) goes = never next (rw is at goes)
gap_steps (at.inside frame outer) offset b next (closes is) goes =
    to_next (at.gap (at.inside frame outer)) b (at.gap (closed frame outer)) next (rw is at goes)
    (plain (at.gap (at.inside frame outer)) b (at.gap (closed frame outer)) refl refl (rw is refl) (rw is (let e : suc (length outer) + 0 ≡ level_in (closed frame outer) + 1 = omega (arith, closed_level frame outer) in e)))
gap_steps (at.after frame) offset b next (closes is) goes = never next (rw is at goes)
gap_steps at.before offset b next (letter is) goes = never next (rw (letter-blank b is, letter-semicolon b is, letter-open b is) at goes)
gap_steps (at.inside frame outer) offset b next (letter is) goes =
    to_next (at.gap (at.inside frame outer)) b (at.word frame outer offset (lowered b ∷ [])) next (rw (letter-step frame outer offset b is) at goes)
    (plain (at.gap (at.inside frame outer)) b (at.word frame outer offset (lowered b ∷ [])) refl refl (letter-semicolon b is) (rw (letter-open b is, letter-close b is) refl))
gap_steps (at.after frame) offset b next (letter is) goes = never next (rw (letter-blank b is, letter-semicolon b is) at goes)
gap_steps at.before offset b next (other e f g h i) goes = never next (rw (e, f, g) at goes)
gap_steps (at.inside frame outer) offset b next (other e f g h i) goes = never next (rw (other-step frame outer offset b e f g h i) at goes)
gap_steps (at.after frame) offset b next (other e f g h i) goes = never next (rw (e, f) at goes)

comment_steps : (place : Place) (offset b : ℕ) (next : State) (t : Bool) → (b == line_feed) ≡ t → step (at.comment place) offset b ≡ Some next → Steps (at.comment place) b next
comment_steps place offset b next true is goes =
    let b_is : b ≡ line_feed = eqb-true b line_feed is in
    to_next (at.comment place) b (at.gap place) next (rw is at goes) (record { shown = b; seen_is = λ bs. rw is refl; levels = rw b_is refl })
comment_steps place offset b next false is goes =
    to_next (at.comment place) b (at.comment place) next (rw is at goes) (record { shown = 32; seen_is = λ bs. rw is refl; levels = refl })

word_steps : (frame : Frame) (outer : List Frame) (start : ℕ) (letters : List ℕ) (offset b : ℕ) (next : State) (t : Bool) → is_letter b ≡ t
    → step (at.word frame outer start letters) offset b ≡ Some next → Steps (at.word frame outer start letters) b next
word_steps frame outer start letters offset b next true is goes =
    to_next (at.word frame outer start letters) b (at.word frame outer start (letters ++ lowered b ∷ [])) next (rw is at goes)
    (plain (at.word frame outer start letters) b (at.word frame outer start (letters ++ lowered b ∷ [])) refl refl (letter-semicolon b is) (rw (letter-open b is, letter-close b is) refl))
word_steps frame outer start letters offset b next false is goes =
    let same : step (at.word frame outer start letters) offset b ≡ step (at.gap (at.inside (with_item frame (word start letters)) outer)) offset b = rw is refl in
    let s = gap_steps (at.inside (with_item frame (word start letters)) outer) offset b next (kind_of b) (sym same ∙ goes) in
    record { shown = s.shown; seen_is = s.seen_is; levels = s.levels }

steps : (state : State) (offset b : ℕ) (next : State) → step state offset b ≡ Some next → Steps state b next
steps (at.gap place) offset b next goes = gap_steps place offset b next (kind_of b) goes
steps (at.comment place) offset b next goes = comment_steps place offset b next _ refl goes
steps (at.word frame outer start letters) offset b next goes = word_steps frame outer start letters offset b next _ refl goes

-- ---- over many bytes

record Counts (state : State) (xs : List ℕ) (end : State) : Type 0 where
  levels : level_of state + count_by (λ b. b == open_paren) (seen (in_comment state) xs) ≡ level_of end + count_by (λ b. b == close_paren) (seen (in_comment state) xs)
  seen_is : (ys : List ℕ) → seen (in_comment state) (xs ++ ys) ≡ seen (in_comment state) xs ++ seen (in_comment end) ys
  long : length (seen (in_comment state) xs) ≡ length xs

seen_none : (c : Bool) → seen c [] ≡ []
seen_none false = refl
seen_none true = refl

passed : (next : Option State) (end : State) (offset : ℕ) (bs : List ℕ) → then_run (λ t. run t offset bs) next ≡ Some end → (state : State) × (next ≡ Some state) × (run state offset bs ≡ Some end)
passed None end offset bs h = never end h
passed (Some state) end offset bs h = (state, refl, h)

counts : (state : State) (offset : ℕ) (xs : List ℕ) (end : State) → run state offset xs ≡ Some end → Counts state xs end
counts state offset [] end leads =
    let same : state ≡ end = cc in
    subst (λ (s : State). Counts state [] s) same (record {
      levels = rw (seen_none (in_comment state)) refl;
      seen_is = λ ys. rw (seen_none (in_comment state)) refl;
      long = rw (seen_none (in_comment state)) refl;
    })
counts state offset (b ∷ bs) end leads =
    let p = passed (step state offset b) end (offset + 1) bs leads in
    let s = steps state offset b p.0 p.1 in
    let c = counts p.0 (offset + 1) bs end p.2 in
    let here = s.seen_is bs in
    let opened = sum_by-cons opening s.shown (seen (in_comment p.0) bs) in
    let ended = sum_by-cons closing s.shown (seen (in_comment p.0) bs) in
    record {
      levels = rw here (omega (arith, s.levels, c.levels, opened, ended));
      seen_is = λ ys. s.seen_is (bs ++ ys) ∙ ap (λ zs. s.shown ∷ zs) (c.seen_is ys) ∙ ap (λ zs. zs ++ seen (in_comment end) ys) (sym here);
      long = rw here (omega (arith, c.long));
    }

-- the reader's level is that of the definition
pub level_is : (xs : List ℕ) (state : State) → run (at.gap at.before) 0 xs ≡ Some state → level_after xs ≡ level_of state
level_is xs state leads = omega (arith, (counts (at.gap at.before) 0 xs state leads).levels)

-- the next byte without comments
shown_is : (xs : List ℕ) (state : State) (b : ℕ) (ys : List ℕ) → run (at.gap at.before) 0 xs ≡ Some state
    → slice_index (uncommented (xs ++ b ∷ ys)) (length xs) ≡ slice_index (seen (in_comment state) (b ∷ ys)) 0
shown_is xs state b ys leads =
    let c = counts (at.gap at.before) 0 xs state leads in
    let long : length xs ≡ length (uncommented xs) + 0 = omega (arith, c.long) in
    rw (c.seen_is (b ∷ ys), long) (get_or-append-add (uncommented xs) (seen (in_comment state) (b ∷ ys)) 0 0)

pub opens_here : (xs : List ℕ) (state : State) (b : ℕ) (ys : List ℕ) → run (at.gap at.before) 0 xs ≡ Some state → in_comment state ≡ false → b ≡ open_paren
    → slice_index (uncommented (xs ++ b ∷ ys)) (length xs) ≡ open_paren
opens_here xs state b ys leads outside is = shown_is xs state b ys leads ∙ rw (outside, is) refl

first_seen : (commented : Bool) (b : ℕ) (ys : List ℕ) (p q : Bool) → (b == semicolon) ≡ p → (b == line_feed) ≡ q → slice_index (seen commented (b ∷ ys)) 0 ≡ open_paren → (commented ≡ false) × (b ≡ open_paren)
first_seen false b ys true q e f h = absurd (let g : 32 ≡ open_paren = rw e at h in omega arith)
first_seen false b ys false q e f h = (refl, rw e at h)
first_seen true b ys p true e f h = absurd (let g : b ≡ open_paren = rw f at h in let l = eqb-true b line_feed f in omega arith)
first_seen true b ys p false e f h = absurd (let g : 32 ≡ open_paren = rw f at h in omega arith)

pub opens_only : (xs : List ℕ) (state : State) (b : ℕ) (ys : List ℕ) → run (at.gap at.before) 0 xs ≡ Some state
    → slice_index (uncommented (xs ++ b ∷ ys)) (length xs) ≡ open_paren → (in_comment state ≡ false) × (b ≡ open_paren)
opens_only xs state b ys leads h = first_seen (in_comment state) b ys _ _ refl refl (sym (shown_is xs state b ys leads) ∙ h)
