use Rattle.std.proofs.Common.{arith, ◌≡◌, ◌==◌, ℕ, ◌+◌, ◌%◌, ◌/◌, ◌<◌, length, List, Bool, true, false, ◌&&◌, ◌||◌, refl, sym, ap, ◌∙◌, ◌⊎◌, inl, inr, subst}
use Rattle.bit_sets.specs.Rows.{row_has, IsPairAcross}
use Rattle.gt_core.specs.Literal.{opposite}
use Rattle.gt_core.proofs.published.Basics.{or_split, or_left, and_split, and_both, cases, same_test, test_same, apart}
use Rattle.gt_core.proofs.published.Literals.{opposite_twice, add_opposite, delete_opposite, even_is_add, odd_is_delete}
use Rattle.implied_literals.specs.Rows.{row_at, clause_in, IsPart, IsChained, HasNoPair, IsClosure}
use Rattle.implied_literals.specs.Tested.{IsSetOf}
use Rattle.implied_literals.specs.Renewed.{WasClosed, WasTold, WereKnown}
use Rattle.implied_literals.specs.declared.known.Known.{Known}
use Rattle.implied_literals.proofs.published.Closing.{closure_within}

-- What is known after clauses were dropped.

-- no pair across two sets, in both directions
pub no_opposite : (row set : ℕ → Bool) → IsPairAcross row set false → IsPairAcross set row false → (x : ℕ) → set x ≡ true → row (opposite x) ≡ true → ⊥
no_opposite row set one other x s r = by (cases (x % 2 == 0))
  where
    by : ((x % 2 == 0) ≡ true) ⊎ ((x % 2 == 0) ≡ false) → ⊥
    by (inl e) =
        let is = even_is_add x e in
        other (x / 2) (subst (λ (k : ℕ). set k ≡ true) is s) (subst (λ (k : ℕ). row k ≡ true) (add_opposite x (x / 2) is) r)
    by (inr e) =
        let is = odd_is_delete x e in
        one (x / 2) (subst (λ (k : ℕ). row k ≡ true) (delete_opposite x (x / 2) is) r) (subst (λ (k : ℕ). set k ≡ true) is s)

module _ (V : ℕ → ℕ → Bool) where
  -- a chained set is its own closure
  pub itself_closed : (set : ℕ → Bool) → (HasNoPair set → IsChained V set) → IsClosure V set set
  itself_closed set chained = record { given = λ m t. t; sound = λ other ch part. part; chained = chained }

  -- an old set that is no other
  pub same_closed : (size : ℕ) (first old : ℕ → Bool) → WasClosed V size first old → first ≡ old → IsClosure V first old
  same_closed size first old was same = subst (λ (s : ℕ → Bool). IsClosure V s old) (sym same) (itself_closed old was.chained)

  -- a set that contradicts itself
  pub pair_closed : (set : ℕ → Bool) → IsPairAcross set set true → IsClosure V set set
  pair_closed set p = itself_closed set (λ free. absurd (free p.0 p.1 p.2))

  -- a literal with what its clauses tell
  pub first_closed : (x : ℕ) (first set : ℕ → Bool) → ((m : ℕ) → first m ≡ ((x == m) || V (opposite x) m)) → IsClosure V first set → IsClosure V (λ m. x == m) set
  first_closed x first set is c = record {
    given = λ m e. c.given m (is m ∙ or_left _ _ e);
    sound = λ other ch part. c.sound other ch (λ k f. by other ch part k (or_split (x == k) (V (opposite x) k) (sym (is k) ∙ f)));
    chained = c.chained;
  }
    where
      by : (other : ℕ → Bool) → IsChained V other → IsPart (λ m. x == m) other → (k : ℕ) → ((x == k) ≡ true) ⊎ (V (opposite x) k ≡ true) → other k ≡ true
      by other ch part k (inl e) = part k e
      by other ch part k (inr v) = ch x k (part x (same_test x x refl)) v

  module _ (stale : ℕ → Bool) (size x : ℕ) (old : ℕ → Bool) (told : WasTold V stale size x old) where
    still_chained : HasNoPair old → IsChained V old
    still_chained free a b o v = (told.closed free).chained free a b o (told.lessened.less (opposite a) b v)

    -- what a literal told has what it tells at once
    pub was_closed : (first : ℕ → Bool) → x < size → ((m : ℕ) → first m ≡ ((x == m) || V (opposite x) m)) → WasClosed V size first old
    was_closed first lt is = record {
      within = λ free. closure_within told.before size told.lessened.bound (λ m. x == m) old (told.closed free) (λ m e. subst (λ (k : ℕ). k < size) (test_same x m e) lt);
      part = λ free m f. by free m (or_split (x == m) (V (opposite x) m) (sym (is m) ∙ f));
      chained = still_chained;
    }
      where
        by : HasNoPair old → (m : ℕ) → ((x == m) ≡ true) ⊎ (V (opposite x) m ≡ true) → old m ≡ true
        by free m (inl e) = (told.closed free).given m e
        by free m (inr v) = still_chained free x m ((told.closed free).given x (same_test x x refl)) v

    -- no clause that could have been used is gone
    pub untouched_closed : HasNoPair old → ((m : ℕ) → (old m && stale m) ≡ false) → IsClosure V (λ m. x == m) old
    untouched_closed free off = record {
      given = (told.closed free).given;
      sound = λ other ch part m o. (and_split (old m) (other m) ((told.closed free).sound (λ k. old k && other k) (both other ch)
          (λ k e. and_both _ _ ((told.closed free).given k e) (part k e)) m o)).1;
      chained = λ _. still_chained free;
    }
      where
        used : (a b : ℕ) → old a ≡ true → told.before (opposite a) b ≡ true → (V (opposite a) b ≡ true) ⊎ (V (opposite a) b ≡ false) → V (opposite a) b ≡ true
        used a b o v (inl t) = t
        used a b o v (inr n) = absurd (apart (old a && stale a)
            (and_both _ _ o (ap stale (sym (opposite_twice a)) ∙ told.lessened.gone (opposite a) b v n)) (off a))

        both : (other : ℕ → Bool) → IsChained V other → IsChained told.before (λ k. old k && other k)
        both other ch a b h v =
            let p = and_split (old a) (other a) h in
            and_both _ _ ((told.closed free).chained free a b p.0 v) (ch a b p.1 (used a b p.0 v (cases (V (opposite a) b))))

-- one more row of a list is done
pub one_more_closed : (V : ℕ → ℕ → Bool) (old new : List (List ℕ)) (x : ℕ) → ((k : ℕ) → (k ≡ x → ⊥) → row_at new k ≡ row_at old k) → IsClosure V (λ m. x == m) (row_has (row_at new x))
    → (k : ℕ) → k < x + 1 → (k < x → IsClosure V (λ m. k == m) (row_has (row_at old k))) → IsClosure V (λ m. k == m) (row_has (row_at new k))
one_more_closed V old new x others closed k lt below = by (same_or_not k x)
  where
    same_or_not : (a b : ℕ) → (a ≡ b) ⊎ (a ≡ b → ⊥)
    same_or_not a b = grind arith

    by : (k ≡ x) ⊎ (k ≡ x → ⊥) → IsClosure V (λ m. k == m) (row_has (row_at new k))
    by (inl e) = subst (λ (j : ℕ). IsClosure V (λ m. j == m) (row_has (row_at new j))) (sym e) closed
    by (inr d) = subst (λ (r : List ℕ). IsClosure V (λ m. k == m) (row_has r)) (sym (others k d)) (below (omega arith))

-- ---- all that was known

module _ (V : ℕ → ℕ → Bool) (stale : ℕ → Bool) (size : ℕ) (asked : ℕ → Bool) (known : Known) where
  -- before anything is known all contradicts itself
  pub first_were : ((l m : ℕ) → V l m ≡ true → m < size) → (HasNoPair (row_has known.none) → ⊥) → length known.rows.items ≡ size → IsSetOf size asked
      → ((k : ℕ) → asked k ≡ true → k < size → HasNoPair (row_has (row_at known.rows.items k)) → ⊥) → ((k m : ℕ) → asked k ≡ false → clause_in known.rows.items k m ≡ false) → WereKnown V stale size asked known
  first_were bound none long within each other = record {
    before = V;
    lessened = record { less = λ l m t. t; gone = λ l m t f. absurd (apart (V l m) t f); bound = bound };
    none = λ h. absurd (none h);
    long = long;
    each = λ k a h. absurd (each k a (within k a) h);
    other = other;
  }

  module _ (were : WereKnown V stale size asked known) where
    pub row_was : (k : ℕ) → asked k ≡ true → WasTold V stale size k (row_has (row_at known.rows.items k))
    row_was k a = record { before = were.before; lessened = were.lessened; closed = were.each k a }

    pub none_was : WasClosed V size (λ l. V l l) (row_has known.none)
    none_was = record {
      within = λ free. closure_within were.before size were.lessened.bound (λ l. were.before l l) (row_has known.none) (were.none free) (λ m v. were.lessened.bound m m v);
      part = λ free m v. (were.none free).given m (were.lessened.less m m v);
      chained = λ free x y i v. (were.none free).chained free x y i (were.lessened.less (opposite x) y v);
    }
