-- What is read is a file: bytes that lead to a tree are a gap, a list and a gap.
use Rattle.std.proofs.Common.{◌≡◌, ◌≢◌, ◌+◌, ◌==◌, ◌≤◌, ℕ, zero, suc, Bool, true, false, List, [], ◌∷◌, ◌++◌, length, map, Some, None, refl, sym, ap, subst, ◌∙◌, append_assoc, arith, length-append, append-nil, if◌then◌else◌}
use Rattle.std.proofs.lemmas.Bool.{eqb-true}
use Rattle.std.specs.Prelude.{IsTrue}
use Rattle.std.specs.List.{list_all}
use Rattle.pd_sexp.specs.Bytes.{open_paren, close_paren, semicolon, line_feed, is_blank, is_letter, lowered}
use Rattle.pd_sexp.specs.Tree.{Tree, word, list, Trees, no_trees, and_tree}
use Rattle.pd_sexp.specs.File.{IsGap, IsComment, StopsWord, StopsTree, IsTree, AreItems, IsFile}
use Rattle.pd_sexp.specs.Progress as at
use Rattle.pd_sexp.specs.Progress.{Frame, Place, State, fresh, with_item, tree_of, closed, step, run, then_run, finished, tree_after}
use Rattle.pd_sexp.proofs.published.Bytes.{blank-semicolon}
use Rattle.pd_sexp.proofs.published.Whole.{with_items, trees_of-list_of, word-stops, blank-step, semicolon-step, letter-step, with_items-more, with_items-none}

-- items that begin with a gap, or with the rest of a comment
abbrev StartsGap : Bool → List ℕ → Type 0
StartsGap false bytes = IsGap false bytes
StartsGap true bytes = IsComment false bytes

abbrev AreItemsFrom : Bool → Trees → ℕ → List ℕ → Type 0
AreItemsFrom commented no_trees offset bytes = StartsGap commented bytes
AreItemsFrom commented (and_tree tree trees) offset bytes =
    (gap : List ℕ) × (item : List ℕ) × (rest : List ℕ) × (bytes ≡ gap ++ (item ++ rest))
    × StartsGap commented gap × IsTree tree (offset + length gap) item × StopsTree tree rest
    × AreItems trees (offset + length gap + length item) rest

same_items : (items : Trees) (offset : ℕ) (bytes : List ℕ) → AreItemsFrom false items offset bytes → AreItems items offset bytes
same_items no_trees offset bytes h = h
same_items (and_tree t ts) offset bytes h = h

-- one byte more at the front of a gap
blank-gap : (b : ℕ) (g : List ℕ) → is_blank b ≡ true → IsGap false g → IsGap false (b ∷ g)
blank-gap b g h is = rw (blank-semicolon b h) (h, is)

semicolon-gap : (b : ℕ) (g : List ℕ) → (b == semicolon) ≡ true → IsComment false g → IsGap false (b ∷ g)
semicolon-gap b g h is = rw h is

line_feed-comment : (b : ℕ) (g : List ℕ) → (b == line_feed) ≡ true → IsGap false g → IsComment false (b ∷ g)
line_feed-comment b g h is = rw h is

other-comment : (b : ℕ) (g : List ℕ) → (b == line_feed) ≡ false → IsComment false g → IsComment false (b ∷ g)
other-comment b g h is = rw h is

-- one byte more at the front of items
longer : (before now : Bool) (b : ℕ) (items : Trees) (offset : ℕ) (bytes : List ℕ) → ((g : List ℕ) → StartsGap before g → StartsGap now (b ∷ g))
    → AreItemsFrom before items (offset + 1) bytes → AreItemsFrom now items offset (b ∷ bytes)
longer before now b no_trees offset bytes more h = more bytes h
longer before now b (and_tree t ts) offset bytes more h =
    let here : offset + 1 + length h.0 ≡ offset + length (b ∷ h.0) = omega arith in
    let there : offset + 1 + length h.0 + length h.1 ≡ offset + length (b ∷ h.0) + length h.1 = omega arith in
    (b ∷ h.0, h.1, h.2, ap (λ xs. b ∷ xs) h.3, more h.0 h.4, rw here at h.5, h.6, rw there at h.7)

-- from here the bytes close the innermost list after some items, and then lead to this state
pub record Closes (commented : Bool) (frame : Frame) (outer : List Frame) (offset : ℕ) (bytes : List ℕ) (end : State) : Type 0 where
  pub items : Trees
  pub inner : List ℕ
  pub rest : List ℕ
  pub parts : bytes ≡ inner ++ close_paren ∷ rest
  pub are : AreItemsFrom commented items offset inner
  pub goes_on : run (at.gap (closed (with_items frame items) outer)) (offset + length inner + 1) rest ≡ Some end

one_more : (before now : Bool) (b : ℕ) (frame : Frame) (outer : List Frame) (offset : ℕ) (bytes : List ℕ) (end : State)
    → ((g : List ℕ) → StartsGap before g → StartsGap now (b ∷ g)) → Closes before frame outer (offset + 1) bytes end → Closes now frame outer offset (b ∷ bytes) end
one_more before now b frame outer offset bytes end more h =
    let there : offset + 1 + length h.inner + 1 ≡ offset + length (b ∷ h.inner) + 1 = omega arith in
    record {
      items = h.items;
      inner = b ∷ h.inner;
      rest = h.rest;
      parts = ap (λ xs. b ∷ xs) h.parts;
      are = longer before now b h.items offset h.inner more h.are;
      goes_on = rw there at h.goes_on;
    }

StopsWord-front : (xs : List ℕ) (ys : List ℕ) → StopsWord (xs ++ ys) → StopsWord xs
StopsWord-front [] ys h = tt
StopsWord-front (x ∷ xs) ys h = h

StopsTree-front : (t : Tree) (xs ys : List ℕ) → StopsTree t (xs ++ ys) → StopsTree t xs
StopsTree-front (word at text) xs ys h = StopsWord-front xs ys h
StopsTree-front (list at items) xs ys h = tt

-- the next item, and what comes after it
one_item : (tree : Tree) (frame : Frame) (outer : List Frame) (offset : ℕ) (item bytes : List ℕ) (end : State)
    → IsTree tree offset item → StopsTree tree bytes → Closes false (with_item frame tree) outer (offset + length item) bytes end → Closes false frame outer offset (item ++ bytes) end
one_item tree frame outer offset item bytes end is stops h =
    let here : offset ≡ offset + length (let none : List ℕ = [] in none) = omega arith in
    let there : offset + length item ≡ offset + length (let none : List ℕ = [] in none) + length item = omega arith in
    let long : offset + length item + length h.inner + 1 ≡ offset + length (item ++ h.inner) + 1 = omega (arith, length-append item h.inner) in
    let frames : with_items (with_item frame tree) h.items ≡ with_items frame (and_tree tree h.items) = with_items-more frame tree h.items in
    record {
      items = and_tree tree h.items;
      inner = item ++ h.inner;
      rest = h.rest;
      parts = ap (λ xs. item ++ xs) h.parts ∙ sym (append_assoc item h.inner (close_paren ∷ h.rest));
      are = ([], item, h.inner, refl, tt, rw here at is, StopsTree-front tree h.inner (close_paren ∷ h.rest) (subst (StopsTree tree) h.parts stops), rw there at (same_items h.items (offset + length item) h.inner h.are));
      goes_on = rw (long, frames) at h.goes_on;
    }

-- ---- the kinds of byte

pub data Kind (b : ℕ) : Type 0 where
  blank : is_blank b ≡ true → Kind b
  opens_comment : (b == semicolon) ≡ true → Kind b
  opens : b ≡ open_paren → Kind b
  closes : b ≡ close_paren → Kind b
  letter : is_letter b ≡ true → Kind b
  other : is_blank b ≡ false → (b == semicolon) ≡ false → (b == open_paren) ≡ false → (b == close_paren) ≡ false → is_letter b ≡ false → Kind b

kind_from : (b : ℕ) (p q r s t : Bool) → is_blank b ≡ p → (b == semicolon) ≡ q → (b == open_paren) ≡ r → (b == close_paren) ≡ s → is_letter b ≡ t → Kind b
kind_from b true q r s t e f g h i = blank e
kind_from b false true r s t e f g h i = opens_comment f
kind_from b false false true s t e f g h i = opens (eqb-true b open_paren g)
kind_from b false false false true t e f g h i = closes (eqb-true b close_paren h)
kind_from b false false false false true e f g h i = letter i
kind_from b false false false false false e f g h i = other e f g h i

pub kind_of : (b : ℕ) → Kind b
kind_of b = kind_from b _ _ _ _ _ refl refl refl refl refl

none_of : {A : Type 0} (v w x y z last : A) (p q r s t : Bool) → p ≡ false → q ≡ false → r ≡ false → s ≡ false → t ≡ false
    → (if p then v else if q then w else if r then x else if s then y else if t then z else last) ≡ last
none_of v w x y z last p q r s t e f g h i = rw (e, f, g, h, i) refl

pub other-step : (frame : Frame) (outer : List Frame) (offset b : ℕ) → is_blank b ≡ false → (b == semicolon) ≡ false → (b == open_paren) ≡ false → (b == close_paren) ≡ false → is_letter b ≡ false
    → step (at.gap (at.inside frame outer)) offset b ≡ None
other-step frame outer offset b e f g h i = none_of _ _ _ _ _ _ (is_blank b) (b == semicolon) (b == open_paren) (b == close_paren) (is_letter b) e f g h i

-- ---- words

-- a word's letters, and what comes after them
record Spells (frame : Frame) (outer : List Frame) (start offset : ℕ) (letters bytes : List ℕ) (end : State) : Type 0 where
  more : List ℕ
  rest : List ℕ
  parts : bytes ≡ more ++ rest
  are_letters : IsTrue (list_all is_letter more)
  stops : StopsWord rest
  goes_on : run (at.word frame outer start (letters ++ map lowered more)) (offset + length more) rest ≡ Some end

here_stops : (frame : Frame) (outer : List Frame) (start offset : ℕ) (letters bytes : List ℕ) (end : State) → StopsWord bytes → run (at.word frame outer start letters) offset bytes ≡ Some end
    → Spells frame outer start offset letters bytes end
here_stops frame outer start offset letters bytes end stops leads =
    let none : letters ++ [] ≡ letters = append-nil letters in
    let still : offset + length (let empty : List ℕ = [] in empty) ≡ offset = omega arith in
    record { more = []; rest = bytes; parts = refl; are_letters = refl; stops = stops; goes_on = rw (none, still) leads }

spell_more : (frame : Frame) (outer : List Frame) (start offset : ℕ) (letters : List ℕ) (b : ℕ) (bs : List ℕ) (end : State) (t : Bool) → is_letter b ≡ t
    → run (at.word frame outer start letters) offset (b ∷ bs) ≡ Some end
    → (run (at.word frame outer start (letters ++ lowered b ∷ [])) (offset + 1) bs ≡ Some end → Spells frame outer start (offset + 1) (letters ++ lowered b ∷ []) bs end)
    → Spells frame outer start offset letters (b ∷ bs) end
spell_more frame outer start offset letters b bs end true is leads go_on =
    let s = go_on (rw is at leads) in
    let joined : (letters ++ lowered b ∷ []) ++ map lowered s.more ≡ letters ++ (lowered b ∷ map lowered s.more) = append_assoc letters (lowered b ∷ []) (map lowered s.more) in
    let long : offset + 1 + length s.more ≡ offset + length (b ∷ s.more) = omega arith in
    record {
      more = b ∷ s.more;
      rest = s.rest;
      parts = ap (λ xs. b ∷ xs) s.parts;
      are_letters = rw is s.are_letters;
      stops = s.stops;
      goes_on = rw (joined, long) at s.goes_on;
    }
spell_more frame outer start offset letters b bs end false is leads go_on =
    here_stops frame outer start offset letters (b ∷ bs) end (λ l. cc) leads

spells : (frame : Frame) (outer : List Frame) (start offset : ℕ) (letters bytes : List ℕ) (end : State) → run (at.word frame outer start letters) offset bytes ≡ Some end
    → Spells frame outer start offset letters bytes end
spells frame outer start offset letters [] end leads = here_stops frame outer start offset letters [] end tt leads
spells frame outer start offset letters (b ∷ bs) end leads =
    spell_more frame outer start offset letters b bs end (is_letter b) refl leads (spells frame outer start (offset + 1) (letters ++ lowered b ∷ []) bs end)

-- ---- lists

Ends : State → Type 0
Ends end = (tree : Tree) × (finished end ≡ Some tree)

unfinished : (s end : State) → finished s ≡ None → Some s ≡ Some end → Ends end → ⊥
unfolding Ends
unfinished s end none is ends = let e : s ≡ end = cc in let f : finished s ≡ finished end = ap finished e in let g = ends.1 in cc

none_ends : {A : Type 0} (x : A) → None ≡ Some x → ⊥
none_ends x h = cc

moved : (commented : Bool) (frame : Frame) (outer : List Frame) (offset : ℕ) (bytes others : List ℕ) (end : State) → bytes ≡ others → Closes commented frame outer offset bytes end → Closes commented frame outer offset others end
moved commented frame outer offset bytes others end same h = subst (λ (xs : List ℕ). Closes commented frame outer offset xs end) same h

abbrev inside_of : Bool → Frame → List Frame → State
inside_of false frame outer = at.gap (at.inside frame outer)
inside_of true frame outer = at.comment (at.inside frame outer)

-- the number of turns bounds the bytes that are left
abbrev Closing : ℕ → Type 0
Closing n = (commented : Bool) (frame : Frame) (outer : List Frame) (offset : ℕ) (bytes : List ℕ) (end : State) → length bytes ≤ n → Ends end
    → run (inside_of commented frame outer) offset bytes ≡ Some end → Closes commented frame outer offset bytes end

close_list : (n : ℕ) → Closing n → (frame : Frame) (outer : List Frame) (offset : ℕ) (bs : List ℕ) (end : State) → length bs ≤ n → Ends end
    → run (at.gap (at.inside (fresh offset) (frame ∷ outer))) (offset + 1) bs ≡ Some end → Closes false frame outer offset (open_paren ∷ bs) end
close_list n go frame outer offset bs end fits ends leads =
    let inner = go false (fresh offset) (frame ∷ outer) (offset + 1) bs end fits ends leads in
    let item = open_paren ∷ (inner.inner ++ close_paren ∷ []) in
    let tree : Tree = list offset inner.items in
    let same : tree_of (with_items (fresh offset) inner.items) ≡ tree = ap (list offset) (trees_of-list_of inner.items) in
    let long : offset + 1 + length inner.inner + 1 ≡ offset + length item = omega (arith, length-append inner.inner (close_paren ∷ [])) in
    let short : length inner.rest ≤ n = omega (arith, ap length inner.parts, length-append inner.inner (close_paren ∷ inner.rest)) in
    let next = go false (with_item frame tree) outer (offset + length item) inner.rest end short ends (rw (same, long) at inner.goes_on) in
    let parts : item ++ inner.rest ≡ open_paren ∷ bs = ap (λ xs. open_paren ∷ xs) (append_assoc inner.inner (close_paren ∷ []) inner.rest ∙ sym inner.parts) in
    moved false frame outer offset (item ++ inner.rest) (open_paren ∷ bs) end parts
    (one_item tree frame outer offset item inner.rest end (refl, (inner.inner, refl, same_items inner.items (offset + 1) inner.inner inner.are)) tt next)

close_word : (n : ℕ) → Closing n → (frame : Frame) (outer : List Frame) (offset b : ℕ) (bs : List ℕ) (end : State) → length bs ≤ n → Ends end → is_letter b ≡ true
    → run (at.word frame outer offset (lowered b ∷ [])) (offset + 1) bs ≡ Some end → Closes false frame outer offset (b ∷ bs) end
close_word n go frame outer offset b bs end fits ends is leads =
    let s = spells frame outer offset (offset + 1) (lowered b ∷ []) bs end leads in
    let tree : Tree = word offset (map lowered (b ∷ s.more)) in
    let some : s.rest ≢ [] = λ none. unfinished (at.word frame outer offset (lowered b ∷ map lowered s.more)) end refl (rw none at s.goes_on) ends in
    let read = sym (word-stops frame outer offset (offset + 1 + length s.more) (lowered b ∷ map lowered s.more) s.rest s.stops some) ∙ s.goes_on in
    let long : offset + 1 + length s.more ≡ offset + length (b ∷ s.more) = omega arith in
    let short : length s.rest ≤ n = omega (arith, ap length s.parts, length-append s.more s.rest) in
    let next = go false (with_item frame tree) outer (offset + length (b ∷ s.more)) s.rest end short ends (rw long at read) in
    let letters : IsTrue (list_all is_letter (b ∷ s.more)) = rw is s.are_letters in
    let named : b ∷ s.more ≢ [] = λ none. cc in
    moved false frame outer offset ((b ∷ s.more) ++ s.rest) (b ∷ bs) end (ap (λ xs. b ∷ xs) (sym s.parts)) (one_item tree frame outer offset (b ∷ s.more) s.rest end (refl, named, letters, refl) s.stops next)

close_here : (frame : Frame) (outer : List Frame) (offset : ℕ) (bs : List ℕ) (end : State) → run (at.gap (closed frame outer)) (offset + 1) bs ≡ Some end → Closes false frame outer offset (close_paren ∷ bs) end
close_here frame outer offset bs end leads =
    let frames : frame ≡ with_items frame no_trees = sym (with_items-none frame) in
    let still : offset + 1 ≡ offset + length (let none : List ℕ = [] in none) + 1 = omega arith in
    record { items = no_trees; inner = []; rest = bs; parts = refl; are = tt; goes_on = subst (λ (f : Frame). run (at.gap (closed f outer)) (offset + length (let none : List ℕ = [] in none) + 1) bs ≡ Some end) frames (rw still at leads) }

close_gap : (n : ℕ) → Closing n → (frame : Frame) (outer : List Frame) (offset b : ℕ) (bs : List ℕ) (end : State) → length bs ≤ n → Ends end → Kind b
    → run (at.gap (at.inside frame outer)) offset (b ∷ bs) ≡ Some end → Closes false frame outer offset (b ∷ bs) end
close_gap n go frame outer offset b bs end fits ends (blank is) leads =
    one_more false false b frame outer offset bs end (λ g h. blank-gap b g is h) (go false frame outer (offset + 1) bs end fits ends (rw (blank-step (at.inside frame outer) offset b is) at leads))
close_gap n go frame outer offset b bs end fits ends (opens_comment is) leads =
    one_more true false b frame outer offset bs end (λ g h. semicolon-gap b g is h) (go true frame outer (offset + 1) bs end fits ends (rw (semicolon-step (at.inside frame outer) offset b is) at leads))
close_gap n go frame outer offset b bs end fits ends (opens is) leads =
    moved false frame outer offset (open_paren ∷ bs) (b ∷ bs) end (ap (λ x. x ∷ bs) (sym is)) (close_list n go frame outer offset bs end fits ends (rw is at leads))
close_gap n go frame outer offset b bs end fits ends (closes is) leads =
    moved false frame outer offset (close_paren ∷ bs) (b ∷ bs) end (ap (λ x. x ∷ bs) (sym is)) (close_here frame outer offset bs end (rw is at leads))
close_gap n go frame outer offset b bs end fits ends (letter is) leads =
    close_word n go frame outer offset b bs end fits ends is (rw (letter-step frame outer offset b is) at leads)
close_gap n go frame outer offset b bs end fits ends (other e f g h i) leads =
    absurd (none_ends end (rw (other-step frame outer offset b e f g h i) at leads))

close_comment : (n : ℕ) → Closing n → (frame : Frame) (outer : List Frame) (offset b : ℕ) (bs : List ℕ) (end : State) → length bs ≤ n → Ends end → (t : Bool) → (b == line_feed) ≡ t
    → run (at.comment (at.inside frame outer)) offset (b ∷ bs) ≡ Some end → Closes true frame outer offset (b ∷ bs) end
close_comment n go frame outer offset b bs end fits ends true is leads =
    one_more false true b frame outer offset bs end (λ g h. line_feed-comment b g is h) (go false frame outer (offset + 1) bs end fits ends (rw is at leads))
close_comment n go frame outer offset b bs end fits ends false is leads =
    one_more true true b frame outer offset bs end (λ g h. other-comment b g is h) (go true frame outer (offset + 1) bs end fits ends (rw is at leads))

closing : (n : ℕ) → Closing n
closing n false frame outer offset [] end fits ends leads = absurd (unfinished (at.gap (at.inside frame outer)) end refl leads ends)
closing n true frame outer offset [] end fits ends leads = absurd (unfinished (at.comment (at.inside frame outer)) end refl leads ends)
closing zero commented frame outer offset (b ∷ bs) end fits ends leads = absurd (omega arith)
closing (suc n) false frame outer offset (b ∷ bs) end fits ends leads = close_gap n (closing n) frame outer offset b bs end (omega arith) ends (kind_of b) leads
closing (suc n) true frame outer offset (b ∷ bs) end fits ends leads = close_comment n (closing n) frame outer offset b bs end (omega arith) ends (b == line_feed) refl leads

-- ---- files

-- after the list there are blanks and comments alone
abbrev LastGap : Bool → List ℕ → Type 0
LastGap false bytes = IsGap true bytes
LastGap true bytes = IsComment true bytes

abbrev after_of : Bool → Frame → State
after_of false frame = at.gap (at.after frame)
after_of true frame = at.comment (at.after frame)

record Trails (commented : Bool) (frame : Frame) (bytes : List ℕ) (end : State) : Type 0 where
  gap : LastGap commented bytes
  tree : finished end ≡ Some (tree_of frame)

after_gap : (frame : Frame) (offset b : ℕ) (bs : List ℕ) (end : State) (p q : Bool) → is_blank b ≡ p → (b == semicolon) ≡ q
    → ((commented : Bool) → run (after_of commented frame) (offset + 1) bs ≡ Some end → Trails commented frame bs end)
    → run (at.gap (at.after frame)) offset (b ∷ bs) ≡ Some end → Trails false frame (b ∷ bs) end
after_gap frame offset b bs end true q e f go leads =
    let t = go false (rw e at leads) in
    record { gap = rw (blank-semicolon b e) (e, t.gap); tree = t.tree }
after_gap frame offset b bs end false true e f go leads =
    let t = go true (rw (e, f) at leads) in
    record { gap = rw f t.gap; tree = t.tree }
after_gap frame offset b bs end false false e f go leads = absurd (none_ends end (rw (e, f) at leads))

after_comment : (frame : Frame) (offset b : ℕ) (bs : List ℕ) (end : State) (p : Bool) → (b == line_feed) ≡ p
    → ((commented : Bool) → run (after_of commented frame) (offset + 1) bs ≡ Some end → Trails commented frame bs end)
    → run (at.comment (at.after frame)) offset (b ∷ bs) ≡ Some end → Trails true frame (b ∷ bs) end
after_comment frame offset b bs end true e go leads =
    let t = go false (rw e at leads) in
    record { gap = rw e t.gap; tree = t.tree }
after_comment frame offset b bs end false e go leads =
    let t = go true (rw e at leads) in
    record { gap = rw e t.gap; tree = t.tree }

trails : (commented : Bool) (frame : Frame) (offset : ℕ) (bytes : List ℕ) (end : State) → run (after_of commented frame) offset bytes ≡ Some end → Trails commented frame bytes end
trails false frame offset [] end leads = record { gap = tt; tree = sym (ap tree_after leads) }
trails true frame offset [] end leads = record { gap = refl; tree = sym (ap tree_after leads) }
trails false frame offset (b ∷ bs) end leads = after_gap frame offset b bs end _ _ refl refl (λ commented. trails commented frame (offset + 1) bs end) leads
trails true frame offset (b ∷ bs) end leads = after_comment frame offset b bs end _ refl (λ commented. trails commented frame (offset + 1) bs end) leads

-- before the list too
abbrev before_of : Bool → State
before_of false = at.gap at.before
before_of true = at.comment at.before

record Begins (commented : Bool) (offset : ℕ) (bytes : List ℕ) (end : State) : Type 0 where
  front : List ℕ
  rest : List ℕ
  parts : bytes ≡ front ++ open_paren ∷ rest
  gap : StartsGap commented front
  goes_on : run (at.gap (at.inside (fresh (offset + length front)) [])) (offset + length front + 1) rest ≡ Some end

begin_more : (before now : Bool) (b offset : ℕ) (bs : List ℕ) (end : State) → ((g : List ℕ) → StartsGap before g → StartsGap now (b ∷ g)) → Begins before (offset + 1) bs end → Begins now offset (b ∷ bs) end
begin_more before now b offset bs end more h =
    let long : offset + 1 + length h.front ≡ offset + length (b ∷ h.front) = omega arith in
    record { front = b ∷ h.front; rest = h.rest; parts = ap (λ xs. b ∷ xs) h.parts; gap = more h.front h.gap; goes_on = rw long at h.goes_on }

begin_gap : (offset b : ℕ) (bs : List ℕ) (end : State) (p q r : Bool) → is_blank b ≡ p → (b == semicolon) ≡ q → (b == open_paren) ≡ r
    → ((commented : Bool) → run (before_of commented) (offset + 1) bs ≡ Some end → Begins commented (offset + 1) bs end)
    → run (at.gap at.before) offset (b ∷ bs) ≡ Some end → Begins false offset (b ∷ bs) end
begin_gap offset b bs end true q r e f g go leads = begin_more false false b offset bs end (λ xs h. blank-gap b xs e h) (go false (rw e at leads))
begin_gap offset b bs end false true r e f g go leads = begin_more true false b offset bs end (λ xs h. semicolon-gap b xs f h) (go true (rw (e, f) at leads))
begin_gap offset b bs end false false true e f g go leads =
    let still : offset ≡ offset + length (let none : List ℕ = [] in none) = omega arith in
    let opened : run (at.gap (at.inside (fresh offset) [])) (offset + 1) bs ≡ Some end = rw (e, f, g) at leads in
    record { front = []; rest = bs; parts = ap (λ x. x ∷ bs) (eqb-true b open_paren g); gap = tt; goes_on = rw still at opened }
begin_gap offset b bs end false false false e f g go leads = absurd (none_ends end (rw (e, f, g) at leads))

begin_comment : (offset b : ℕ) (bs : List ℕ) (end : State) (p : Bool) → (b == line_feed) ≡ p
    → ((commented : Bool) → run (before_of commented) (offset + 1) bs ≡ Some end → Begins commented (offset + 1) bs end)
    → run (at.comment at.before) offset (b ∷ bs) ≡ Some end → Begins true offset (b ∷ bs) end
begin_comment offset b bs end true e go leads = begin_more false true b offset bs end (λ xs h. line_feed-comment b xs e h) (go false (rw e at leads))
begin_comment offset b bs end false e go leads = begin_more true true b offset bs end (λ xs h. other-comment b xs e h) (go true (rw e at leads))

begins : (commented : Bool) (offset : ℕ) (bytes : List ℕ) (end : State) → Ends end → run (before_of commented) offset bytes ≡ Some end → Begins commented offset bytes end
begins false offset [] end ends leads = absurd (unfinished (at.gap at.before) end refl leads ends)
begins true offset [] end ends leads = absurd (unfinished (at.comment at.before) end refl leads ends)
begins false offset (b ∷ bs) end ends leads = begin_gap offset b bs end _ _ _ refl refl refl (λ commented. begins commented (offset + 1) bs end ends) leads
begins true offset (b ∷ bs) end ends leads = begin_comment offset b bs end _ refl (λ commented. begins commented (offset + 1) bs end ends) leads

-- bytes that lead to a tree are a file of that tree
pub run-file : (bytes : List ℕ) (end : State) (tree : Tree) → run (at.gap at.before) 0 bytes ≡ Some end → finished end ≡ Some tree → IsFile bytes tree
unfolding Ends
run-file bytes end tree leads ends =
    let b = begins false 0 bytes end (tree, ends) leads in
    let none : 0 + length b.front ≡ length b.front = omega arith in
    let c = closing (length b.rest) false (fresh (0 + length b.front)) [] (0 + length b.front + 1) b.rest end (omega arith) (tree, ends) b.goes_on in
    let t = trails false (with_items (fresh (0 + length b.front)) c.items) (0 + length b.front + 1 + length c.inner + 1) c.rest end c.goes_on in
    let whole : tree ≡ list (0 + length b.front) c.items =
    some_inj tree (tree_of (with_items (fresh (0 + length b.front)) c.items)) (sym ends ∙ t.tree) ∙ ap (list (0 + length b.front)) (trees_of-list_of c.items) in
    record {
      before = b.front;
      middle = open_paren ∷ (c.inner ++ close_paren ∷ []);
      after = c.rest;
      parts = b.parts ∙ ap (λ xs. b.front ++ open_paren ∷ xs) (c.parts ∙ sym (append_assoc c.inner (close_paren ∷ []) c.rest));
      first_gap = b.gap;
      last_gap = t.gap;
      one_list = (0 + length b.front, c.items, whole);
      is_tree = subst (λ (u : Tree). IsTree u (length b.front) (open_paren ∷ (c.inner ++ close_paren ∷ []))) (sym whole)
          (none, (c.inner, refl, subst (λ (n : ℕ). AreItems c.items (n + 1) c.inner) none (same_items c.items (0 + length b.front + 1) c.inner c.are)));
    }
  where
    some_inj : (x y : Tree) → Some x ≡ Some y → x ≡ y
    some_inj x y h = cc
