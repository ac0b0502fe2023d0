-- What is a file is read as its tree: a file's bytes, one after another, lead from the start to the end.
use Rattle.std.proofs.Common.{◌≡◌, ◌≢◌, ◌+◌, ◌==◌, ℕ, Bool, true, false, List, [], ◌∷◌, ◌++◌, length, map, Option, Some, None, refl, sym, ap, subst, ◌∙◌, append_assoc, arith, MatchBool, length-append, ◌⊎◌, inl, inr, append-nil, if◌then◌else◌}
use Rattle.std.proofs.lemmas.Bool.{and_parts}
use Rattle.std.specs.Prelude.{IsTrue}
use Rattle.std.specs.List.{list_all}
use Rattle.pd_sexp.specs.Bytes.{open_paren, close_paren, semicolon, line_feed, is_blank, is_letter, lowered}
use Rattle.pd_sexp.specs.Tree.{Tree, word, list, Trees, no_trees, and_tree, trees_of}
use Rattle.pd_sexp.specs.File.{IsGap, IsComment, StopsWord, StopsTree, IsTree, AreItems, IsFile}
use Rattle.pd_sexp.specs.Progress as at
use Rattle.pd_sexp.specs.Progress.{Frame, Place, State, fresh, with_item, tree_of, closed, step, run, then_run, tree_after}
use Rattle.pd_sexp.proofs.published.Bytes.{letter-blank, letter-semicolon, letter-open, letter-close, semicolon-blank}

-- ---- one run after another

append-from : (next : Option State) (o : ℕ) (xs ys : List ℕ) → ((t : State) → run t o (xs ++ ys) ≡ then_run (λ u. run u (o + length xs) ys) (run t o xs))
    → then_run (λ t. run t o (xs ++ ys)) next ≡ then_run (λ u. run u (o + length xs) ys) (then_run (λ t. run t o xs) next)
append-from None o xs ys h = refl
append-from (Some t) o xs ys h = h t

pub run-append : (s : State) (o : ℕ) (xs ys : List ℕ) → run s o (xs ++ ys) ≡ then_run (λ t. run t (o + length xs) ys) (run s o xs)
run-append s o [] ys = ap (λ n. run s n ys) (omega arith)
run-append s o (x ∷ xs) ys =
    let longer : o + 1 + length xs ≡ o + length (x ∷ xs) = omega arith in
    let tail = append-from (step s o x) (o + 1) xs ys (λ t. run-append t (o + 1) xs ys) in
    rw longer at tail

-- ---- gaps

pub choice : {P Q : Type 0} (t : Bool) → MatchBool t P Q → ((t ≡ true) × P) ⊎ ((t ≡ false) × Q)
choice true h = inl (refl, h)
choice false h = inr (refl, h)

-- a blank outside comments and words, and the other two steps of a gap
pub blank-step : (p : Place) (o b : ℕ) → is_blank b ≡ true → step (at.gap p) o b ≡ Some (at.gap p)
blank-step p o b h = rw h refl

pub semicolon-step : (p : Place) (o b : ℕ) → (b == semicolon) ≡ true → step (at.gap p) o b ≡ Some (at.comment p)
semicolon-step p o b h = rw (semicolon-blank b h, h) refl

mutual
  pub gap-run : (p : Place) (o : ℕ) (g rest : List ℕ) → IsGap false g → run (at.gap p) o (g ++ rest) ≡ run (at.gap p) (o + length g) rest
  gap-run p o [] rest h = ap (λ n. run (at.gap p) n rest) (omega arith)
  gap-run p o (b ∷ g) rest h =
      let longer : o + 1 + length g ≡ o + length (b ∷ g) = omega arith in
      elim (choice (b == semicolon) h) [
        | inl e ↦ ap (then_run (λ t. run t (o + 1) (g ++ rest))) (semicolon-step p o b e.0) ∙ rw longer at (comment-run p (o + 1) g rest e.1)
        | inr e ↦ ap (then_run (λ t. run t (o + 1) (g ++ rest))) (blank-step p o b e.1.0) ∙ rw longer at (gap-run p (o + 1) g rest e.1.1)
      ]

  comment-run : (p : Place) (o : ℕ) (g rest : List ℕ) → IsComment false g → run (at.comment p) o (g ++ rest) ≡ run (at.gap p) (o + length g) rest
  comment-run p o [] rest h = let never : false ≡ true = h in cc
  comment-run p o (b ∷ g) rest h =
      let longer : o + 1 + length g ≡ o + length (b ∷ g) = omega arith in
      elim (choice (b == line_feed) h) [
        | inl e ↦ rw e.0 (rw longer at (gap-run p (o + 1) g rest e.1))
        | inr e ↦ rw e.0 (rw longer at (comment-run p (o + 1) g rest e.1))
      ]

-- the last gap, whose comment may end with the file
mutual
  pub gap-ends : (f : Frame) (o : ℕ) (g : List ℕ) → IsGap true g → tree_after (run (at.gap (at.after f)) o g) ≡ Some (tree_of f)
  gap-ends f o [] h = refl
  gap-ends f o (b ∷ g) h = elim (choice (b == semicolon) h) [
    | inl e ↦ ap (λ s. tree_after (then_run (λ t. run t (o + 1) g) s)) (semicolon-step (at.after f) o b e.0) ∙ comment-ends f (o + 1) g e.1
    | inr e ↦ ap (λ s. tree_after (then_run (λ t. run t (o + 1) g) s)) (blank-step (at.after f) o b e.1.0) ∙ gap-ends f (o + 1) g e.1.1
  ]

  comment-ends : (f : Frame) (o : ℕ) (g : List ℕ) → IsComment true g → tree_after (run (at.comment (at.after f)) o g) ≡ Some (tree_of f)
  comment-ends f o [] h = refl
  comment-ends f o (b ∷ g) h = elim (choice (b == line_feed) h) [
    | inl e ↦ rw e.0 (gap-ends f (o + 1) g e.1)
    | inr e ↦ rw e.0 (comment-ends f (o + 1) g e.1)
  ]

-- ---- the items of a list, one by one

pub listed_parts : (gap item tail bytes rest : List ℕ) → bytes ≡ gap ++ (item ++ tail) → bytes ++ close_paren ∷ rest ≡ gap ++ (item ++ (tail ++ close_paren ∷ rest))
listed_parts gap item tail bytes rest are =
    ap (λ xs. xs ++ close_paren ∷ rest) are ∙ append_assoc gap (item ++ tail) (close_paren ∷ rest) ∙ ap (λ xs. gap ++ xs) (append_assoc item tail (close_paren ∷ rest))

pub listed_length : (o : ℕ) (gap item tail bytes : List ℕ) → bytes ≡ gap ++ (item ++ tail) → o + length gap + length item + length tail ≡ o + length bytes
listed_length o gap item tail bytes are = omega (arith, ap length are, length-append gap (item ++ tail), length-append item tail)

-- ---- words

pub stops-letter : (b : ℕ) (bs : List ℕ) → StopsWord (b ∷ bs) → is_letter b ≡ false
stops-letter b bs h = not_true (is_letter b) h
  where
    not_true : (t : Bool) → (IsTrue t → ⊥) → t ≡ false
    not_true true h = absurd (h refl)
    not_true false h = refl

-- a word that something else comes after
pub word-stops : (f : Frame) (outer : List Frame) (start o : ℕ) (letters rest : List ℕ) → StopsWord rest → rest ≢ []
    → run (at.word f outer start letters) o rest ≡ run (at.gap (at.inside (with_item f (word start letters)) outer)) o rest
word-stops f outer start o letters [] stops some = absurd (some refl)
word-stops f outer start o letters (b ∷ bs) stops some = rw (stops-letter b bs stops) refl

pub word-run : (f : Frame) (outer : List Frame) (start o : ℕ) (before w rest : List ℕ) → IsTrue (list_all is_letter w)
    → run (at.word f outer start before) o (w ++ rest) ≡ run (at.word f outer start (before ++ map lowered w)) (o + length w) rest
word-run f outer start o before [] rest h = let whole : before ++ [] ≡ before = append-nil before in rw whole (ap (λ n. run (at.word f outer start before) n rest) (omega arith))
word-run f outer start o before (b ∷ w) rest h =
    let letter : is_letter b ≡ true = (and_parts (is_letter b) (list_all is_letter w) h).0 in
    let tail = word-run f outer start (o + 1) (before ++ lowered b ∷ []) w rest (and_parts (is_letter b) (list_all is_letter w) h).1 in
    let joined : (before ++ lowered b ∷ []) ++ map lowered w ≡ before ++ (lowered b ∷ map lowered w) = append_assoc before (lowered b ∷ []) (map lowered w) in
    let longer : o + 1 + length w ≡ o + length (b ∷ w) = omega arith in
    rw letter (rw (joined, longer) at tail)

-- the first letter of a word
pub letter-step : (f : Frame) (outer : List Frame) (o b : ℕ) → is_letter b ≡ true → step (at.gap (at.inside f outer)) o b ≡ Some (at.word f outer o (lowered b ∷ []))
letter-step f outer o b h =
    fifth _ _ _ _ _ _ (is_blank b) (b == semicolon) (b == open_paren) (b == close_paren) (is_letter b) (letter-blank b h) (letter-semicolon b h) (letter-open b h) (letter-close b h) h
  where
    fifth : {A : Type 0} (v w x y z other : A) (p q r s t : Bool) → p ≡ false → q ≡ false → r ≡ false → s ≡ false → t ≡ true
        → (if p then v else if q then w else if r then x else if s then y else if t then z else other) ≡ z
    fifth v w x y z other true q r s t e f g h i = cc
    fifth v w x y z other false true r s t e f g h i = cc
    fifth v w x y z other false false true s t e f g h i = cc
    fifth v w x y z other false false false true t e f g h i = cc
    fifth v w x y z other false false false false true e f g h i = refl
    fifth v w x y z other false false false false false e f g h i = cc

-- ---- trees

abbrev pub list_of : Trees → List Tree
list_of no_trees = []
list_of (and_tree t ts) = t ∷ list_of ts

pub trees_of-list_of : (ts : Trees) → trees_of (list_of ts) ≡ ts
trees_of-list_of no_trees = refl
trees_of-list_of (and_tree t ts) = ap (and_tree t) (trees_of-list_of ts)

abbrev pub with_items : Frame → Trees → Frame
with_items f ts = record { at = f.at; items = f.items ++ list_of ts }

pub with_items-more : (f : Frame) (t : Tree) (ts : Trees) → with_items (with_item f t) ts ≡ with_items f (and_tree t ts)
with_items-more f t ts = ap (λ (xs : List Tree). let g : Frame = record { at = f.at; items = xs } in g) (append_assoc f.items (t ∷ []) (list_of ts))

pub with_items-none : (f : Frame) → with_items f no_trees ≡ f
with_items-none f = ap (λ (xs : List Tree). let g : Frame = record { at = f.at; items = xs } in g) (append-nil f.items)

not_empty : (xs : List ℕ) (b : ℕ) (ys : List ℕ) → xs ++ b ∷ ys ≢ []
not_empty [] b ys h = cc
not_empty (x ∷ xs) b ys h = cc

StopsWord-before : (xs : List ℕ) (ys : List ℕ) → StopsWord xs → StopsWord (xs ++ close_paren ∷ ys)
StopsWord-before [] ys h = λ l. let f : false ≡ true = l in cc
StopsWord-before (x ∷ xs) ys h = h

StopsTree-before : (t : Tree) (xs ys : List ℕ) → StopsTree t xs → StopsTree t (xs ++ close_paren ∷ ys)
StopsTree-before (word place text) xs ys h = StopsWord-before xs ys h
StopsTree-before (list place items) xs ys h = tt

mutual
  pub tree-run : (t : Tree) (f : Frame) (outer : List Frame) (o : ℕ) (bytes rest : List ℕ) → IsTree t o bytes → StopsTree t rest → rest ≢ []
      → run (at.gap (at.inside f outer)) o (bytes ++ rest) ≡ run (at.gap (at.inside (with_item f t) outer)) (o + length bytes) rest
  tree-run (word place text) f outer o [] rest is stops some = absurd (is.1 refl)
  tree-run (word place text) f outer o (b ∷ w) rest is stops some =
      let letters = and_parts (is_letter b) (list_all is_letter w) is.2 in
      let longer : o + 1 + length w ≡ o + length (b ∷ w) = omega arith in
      let first = ap (then_run (λ t. run t (o + 1) (w ++ rest))) (letter-step f outer o b letters.0) in
      let others = word-run f outer o (o + 1) (lowered b ∷ []) w rest letters.1 in
      let end = word-stops f outer o (o + 1 + length w) (lowered b ∷ map lowered w) rest stops some in
      let read = first ∙ others ∙ end in
      rw (is.0, is.3) (rw longer at read)
  tree-run (list place items) f outer o bytes rest is stops some =
      let inner = is.1.0 in
      let parts : bytes ++ rest ≡ open_paren ∷ (inner ++ (close_paren ∷ rest)) = ap (λ xs. xs ++ rest) is.1.1 ∙ ap (λ xs. open_paren ∷ xs) (append_assoc inner (close_paren ∷ []) rest) in
      let read = items-run items (fresh o) (f ∷ outer) (o + 1) inner rest is.1.2 in
      let all : o + 1 + length inner + 1 ≡ o + length bytes = omega (arith, ap length is.1.1, length-append inner (close_paren ∷ [])) in
      let tree : tree_of (with_items (fresh o) items) ≡ list o items = ap (list o) (trees_of-list_of items) in
      rw parts (read ∙ ap (λ t. run (at.gap (at.inside (with_item f t) outer)) (o + 1 + length inner + 1) rest) tree ∙ (rw (all, is.0) refl))

  -- the items of a list, up to its closing parenthesis
  pub items-run : (ts : Trees) (f : Frame) (outer : List Frame) (o : ℕ) (bytes rest : List ℕ) → AreItems ts o bytes
      → run (at.gap (at.inside f outer)) o (bytes ++ close_paren ∷ rest) ≡ run (at.gap (at.inside (with_items f ts) outer)) (o + length bytes) (close_paren ∷ rest)
  items-run no_trees f outer o bytes rest are = gap-run (at.inside f outer) o bytes (close_paren ∷ rest) are ∙ ap (λ g. run (at.gap (at.inside g outer)) (o + length bytes) (close_paren ∷ rest)) (sym (with_items-none f))
  items-run (and_tree t ts) f outer o bytes rest are =
      let gap = are.0 in
      let item = are.1 in
      let tail = are.2 in
      let parts = listed_parts gap item tail bytes rest are.3 in
      let long = listed_length o gap item tail bytes are.3 in
      let one = gap-run (at.inside f outer) o gap (item ++ (tail ++ close_paren ∷ rest)) are.4 in
      let two = tree-run t f outer (o + length gap) item (tail ++ close_paren ∷ rest) are.5 (StopsTree-before t tail rest are.6) (not_empty tail close_paren rest) in
      let three = items-run ts (with_item f t) outer (o + length gap + length item) tail rest are.7 in
      rw parts (one ∙ two ∙ three ∙ rw (long, with_items-more f t ts) refl)

-- ---- files

-- a file's bytes lead to its tree
pub file-run : (bytes : List ℕ) (tree : Tree) → IsFile bytes tree → tree_after (run (at.gap at.before) 0 bytes) ≡ Some tree
file-run bytes tree file =
    let place = file.one_list.0 in
    let items = file.one_list.1 in
    let is : IsTree (list place items) (length file.before) file.middle = subst (λ (t : Tree). IsTree t (length file.before) file.middle) file.one_list.2 file.is_tree in
    let inner = is.1.0 in
    let parts : bytes ≡ file.before ++ (open_paren ∷ (inner ++ (close_paren ∷ file.after))) =
    file.parts ∙ ap (λ xs. file.before ++ (xs ++ file.after)) is.1.1 ∙ ap (λ xs. file.before ++ open_paren ∷ xs) (append_assoc inner (close_paren ∷ []) file.after) in
    let start : Option State = run (at.gap at.before) 0 (file.before ++ (open_paren ∷ (inner ++ (close_paren ∷ file.after)))) in
    let one = gap-run at.before 0 file.before (open_paren ∷ (inner ++ (close_paren ∷ file.after))) file.first_gap in
    let none : 0 + length file.before ≡ length file.before = omega arith in
    let two = items-run items (fresh (length file.before)) [] (length file.before + 1) inner file.after is.1.2 in
    let whole : tree_of (with_items (fresh (length file.before)) items) ≡ tree =
    ap (list (length file.before)) (trees_of-list_of items) ∙ ap (λ n. list n items) (sym is.0) ∙ sym file.one_list.2 in
    rw parts (ap tree_after (one ∙ (rw none refl) ∙ two) ∙ gap-ends (with_items (fresh (length file.before)) items) (length file.before + 1 + length inner + 1) file.after file.last_gap ∙ ap (λ (t : Tree). let s : Option Tree = Some t in s) whole)
