use Rattle.std.proofs.Common.{arith, ◌≡◌, ◌==◌, ℕ, ◌+◌, ◌<◌, ◌≤◌, List, [], length, get_or, set, Bool, true, false, not, ◌&&◌, ◌||◌, refl, ap, sym, ◌∙◌, ◌⊎◌, inl, inr, subst, get_or-set_same, get_or-set_other}
use Rattle.std.specs.Prelude.{nat_lt}
use Rattle.std.proofs.lemmas.Bool.{le-ltb as ge_test, lt-ltb as lt_test, cases_lt, or_parts}
use Rattle.std.proofs.lemmas.Bool.Decides.{nat_tests}
use Rattle.std.proofs.lemmas.List.{get_or_read}
use Rattle.bit_sets.specs.Rows.{row_has}
use Rattle.gt_core.specs.Literal.{opposite}
use Rattle.gt_core.proofs.published.Basics.{apart, cases, or_left, or_split, same_test, test_same}
use Rattle.implied_literals.specs.Rows.{clause_in, row_at}
use Rattle.two_invariants.specs.own.Losses.{IsDropped}
use Rattle.implied_literals.proofs.published.Steps.{past_rows}
use Rattle.two_invariants.proofs.Grouping.{and_one}

-- Clauses are dropped from the rows of both their literals.

-- a clause is in both rows or in none
pub still_either : (rows new : List (List ℕ)) (lost : ℕ → ℕ → Bool) → ((a b : ℕ) → clause_in rows a b ≡ clause_in rows b a) → ((a b : ℕ) → clause_in new a b ≡ (clause_in rows a b && not (lost a b || lost b a))) → (a b : ℕ) → clause_in new a b ≡ clause_in new b a
still_either rows new lost either has a b = has a b ∙ ap (λ (x : Bool). x && not (lost a b || lost b a)) (either a b) ∙ swap (clause_in rows b a) (lost a b) (lost b a) ∙ sym (has b a)
  where
    swap : (r x y : Bool) → (r && not (x || y)) ≡ (r && not (y || x))
    swap r x y = grind arith

-- a literal is taken out of the rows of others, below some number already
module _ (rows cur : List (List ℕ)) (others : ℕ → Bool) (lit low : ℕ) (either : (a b : ℕ) → clause_in rows a b ≡ clause_in rows b a)
    (has : (a b : ℕ) → clause_in cur a b ≡ (clause_in rows a b && not (nat_lt a low && (others a && (lit == b))))) where
  untouched_row : (a b : ℕ) → low ≤ a → clause_in cur a b ≡ clause_in rows a b
  untouched_row a b h = has a b ∙ ap (λ (z : Bool). clause_in rows a b && not (z && (others a && (lit == b)))) (ge_test a low h) ∙ and_one (clause_in rows a b)

  own_row : (a : ℕ) → low ≤ a → clause_in cur lit a ≡ clause_in rows lit a
  own_row a h = has lit a ∙ ap (λ (z : Bool). clause_in rows lit a && not z) (off (lit == a) refl) ∙ and_one (clause_in rows lit a)
    where
      none : (x : Bool) → (x && false) ≡ false
      none true = refl
      none false = refl

      off : (t : Bool) → (lit == a) ≡ t → (nat_lt lit low && (others lit && t)) ≡ false
      off true e = let same : lit ≡ a = test_same lit a e in ap (λ (z : Bool). z && (others lit && true)) (ge_test lit low (omega arith))
      off false e = ap (λ (z : Bool). nat_lt lit low && z) (none (others lit)) ∙ none (nat_lt lit low)

  -- what is not in the row of the literal, as it was read, need not be taken out
  pub not_in_row : (row : List ℕ) → lit < length rows → length cur ≡ length rows → row ≡ get_or cur lit row → (a b : ℕ) → low ≤ a → (others a && row_has row a) ≡ false → ((others a && (lit == b)) && clause_in cur a b) ≡ false
  not_in_row row lt long at a b h n = by (lit == b) refl
    where
      read : clause_in cur lit a ≡ row_has row a
      read = ap (λ (r : List ℕ). row_has r a) (sym (get_or_read cur lit row (omega (arith, lt, long)) at []))

      same : (o x y : Bool) → x ≡ y → (o && y) ≡ false → ((o && true) && x) ≡ false
      same o x y e f = grind arith

      gone : (o x : Bool) → ((o && false) && x) ≡ false
      gone true x = refl
      gone false x = refl

      turned : (lit == b) ≡ true → clause_in cur a b ≡ clause_in cur lit a
      turned e = untouched_row a b h ∙ either a b ∙ ap (λ (k : ℕ). clause_in rows k a) (sym (test_same lit b e)) ∙ sym (own_row a h)

      by : (t : Bool) → (lit == b) ≡ t → ((others a && t) && clause_in cur a b) ≡ false
      by true e = same (others a) (clause_in cur a b) (row_has row a) (turned e ∙ read) n
      by false e = gone (others a) (clause_in cur a b)

-- ---- whose clauses became fewer

pub dropped_twice : (one two three : List (List ℕ)) (a b c : ℕ → Bool) → IsDropped one two a b → IsDropped two three b c → IsDropped one three a c
dropped_twice one two three a b c f g = record {
  more = λ k t. g.more k (f.more k t);
  gone = λ l m t n. by l m t n (cases (clause_in two l m));
}
  where
    by : (l m : ℕ) → clause_in one l m ≡ true → clause_in three l m ≡ false → (clause_in two l m ≡ true) ⊎ (clause_in two l m ≡ false) → c (opposite l) ≡ true
    by l m t n (inl h) = g.gone l m h n
    by l m t n (inr h) = g.more (opposite l) (f.gone l m t h)

-- in one row
pub row_dropped : (one two : List (List ℕ)) (a b : ℕ → Bool) (row : ℕ) (lits : ℕ → Bool) → ((l m : ℕ) → clause_in two l m ≡ (clause_in one l m && not ((row == l) && lits m))) → ((k : ℕ) → b k ≡ ((opposite row == k) || a k)) → IsDropped one two a b
row_dropped one two a b row lits has stale = record {
  more = λ k t. stale k ∙ old (opposite row == k) (a k) t;
  gone = λ l m t f. stale (opposite l) ∙ new l (at (clause_in one l m) (row == l) (lits m) t (sym (has l m) ∙ f));
}
  where
    old : (x y : Bool) → y ≡ true → (x || y) ≡ true
    old true y e = refl
    old false y e = e

    at : (x y z : Bool) → x ≡ true → (x && not (y && z)) ≡ false → y ≡ true
    at true true z e f = refl
    at true false z e f = cc
    at false y z e f = cc

    new : (l : ℕ) → (row == l) ≡ true → ((opposite row == opposite l) || a (opposite l)) ≡ true
    new l e = or_left _ _ (same_test (opposite row) (opposite l) (ap opposite (test_same row l e)))

-- literals were taken out of one row
pub row_less : (rows : List (List ℕ)) (row : ℕ) (r : List ℕ) (out : ℕ → Bool) → row < length rows → ((b : ℕ) → row_has r b ≡ (row_has (row_at rows row) b && not (out b))) → (a b : ℕ) → clause_in (set rows row r) a b ≡ (clause_in rows a b && not ((row == a) && out b))
row_less rows row r out inside less a b = by (row == a) refl
  where
    kept : (x : Bool) → x ≡ (x && true)
    kept true = refl
    kept false = refl

    by : (t : Bool) → (row == a) ≡ t → clause_in (set rows row r) a b ≡ (clause_in rows a b && not (t && out b))
    by true e = subst (λ (n : ℕ). clause_in (set rows row r) n b ≡ (clause_in rows n b && not (out b))) (test_same row a e) (ap (λ (xs : List ℕ). row_has xs b) (get_or-set_same rows row r [] inside) ∙ less b)
    by false e = ap (λ (xs : List ℕ). row_has xs b) (get_or-set_other rows row a r [] (λ (s : a ≡ row). apart (row == a) (same_test row a (sym s)) e)) ∙ kept (clause_in rows a b)

-- literals came into one row
pub row_more : (rows : List (List ℕ)) (row : ℕ) (r : List ℕ) (more : ℕ → Bool) → row < length rows → ((b : ℕ) → row_has r b ≡ (row_has (row_at rows row) b || more b)) → (a b : ℕ) → clause_in (set rows row r) a b ≡ (clause_in rows a b || ((row == a) && more b))
row_more rows row r more inside has a b = by (row == a) refl
  where
    kept : (x : Bool) → x ≡ (x || false)
    kept true = refl
    kept false = refl

    by : (t : Bool) → (row == a) ≡ t → clause_in (set rows row r) a b ≡ (clause_in rows a b || (t && more b))
    by true e = subst (λ (n : ℕ). clause_in (set rows row r) n b ≡ (clause_in rows n b || more b)) (test_same row a e) (ap (λ (xs : List ℕ). row_has xs b) (get_or-set_same rows row r [] inside) ∙ has b)
    by false e = ap (λ (xs : List ℕ). row_has xs b) (get_or-set_other rows row a r [] (λ (s : a ≡ row). apart (row == a) (same_test row a (sym s)) e)) ∙ kept (clause_in rows a b)

-- ---- lost clauses, a row a literal

-- a flag that one more test may set
pub some_of : {P : Type 0} (x y z : Bool) → z ≡ (x || y) → (x ≡ true → P) → (y ≡ true → P) → z ≡ true → P
some_of {P} x y z e f g t = by (or_split x y (sym e ∙ t))
  where
    by : (x ≡ true) ⊎ (y ≡ true) → P
    by (inl h) = f h
    by (inr h) = g h

pub none_of : (x y z : Bool) → z ≡ (x || y) → z ≡ false → (x ≡ false) × (y ≡ false)
none_of x y z e f = or_parts x y (sym e ∙ f)

module _ (V : ℕ → ℕ → Bool) (l : ℕ) where
  -- the rows below a number, and one more
  next_row : (a b : ℕ) → (nat_lt a (l + 1) && V a b) ≡ ((nat_lt a l && V a b) || ((l == a) && V l b))
  next_row a b = by (l == a) refl
    where
      own : (x v : Bool) → v ≡ ((x && v) || v)
      own true true = refl
      own true false = refl
      own false v = refl

      other : (x : Bool) → x ≡ (x || false)
      other true = refl
      other false = refl

      by : (t : Bool) → (l == a) ≡ t → (nat_lt a (l + 1) && V a b) ≡ ((nat_lt a l && V a b) || (t && V l b))
      by true e =
          let same : l ≡ a = test_same l a e in
          ap (λ (t : Bool). t && V a b) (lt_test a (l + 1) (omega arith)) ∙ own (nat_lt a l) (V a b) ∙ ap (λ (n : ℕ). (nat_lt a l && V a b) || V n b) (sym same)
      by false e = ap (λ (t : Bool). t && V a b) (grind (arith, nat_tests)) ∙ other (nat_lt a l && V a b)

  pub row_lost : (a b : ℕ) (first cur new : Bool) → cur ≡ (first && not ((nat_lt a l && V a b) || (nat_lt b l && V b a))) → new ≡ (cur && not (((l == a) && V l b) || ((l == b) && V l a)))
      → new ≡ (first && not ((nat_lt a (l + 1) && V a b) || (nat_lt b (l + 1) && V b a)))
  row_lost a b first cur new old one =
      one ∙ ap (λ (x : Bool). x && not (((l == a) && V l b) || ((l == b) && V l a))) old
      ∙ regroup first (nat_lt a l && V a b) (nat_lt b l && V b a) ((l == a) && V l b) ((l == b) && V l a)
      ∙ (λ i. first && not (sym (next_row a b) i || sym (next_row b a) i))
    where
      regroup : (f p q r s : Bool) → ((f && not (p || q)) && not (r || s)) ≡ (f && not ((p || r) || (q || s)))
      regroup f p q r s = grind arith

-- all rows
pub rows_lost : (lost : List (List ℕ)) (l : ℕ) → length lost ≤ l → (a b : ℕ) → (nat_lt a l && clause_in lost a b) ≡ clause_in lost a b
rows_lost lost l le a b = by (cases_lt a l)
  where
    none : (x v : Bool) → v ≡ false → (x && v) ≡ v
    none true v e = refl
    none false v e = sym e

    by : (a < l) ⊎ (l ≤ a) → (nat_lt a l && clause_in lost a b) ≡ clause_in lost a b
    by (inl h) = ap (λ (t : Bool). t && clause_in lost a b) (lt_test a l h)
    by (inr h) = none (nat_lt a l) _ (past_rows lost a b (omega arith))
