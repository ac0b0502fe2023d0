use Rattle.std.proofs.Common.{arith, ◌≡◌, ◌==◌, ℕ, ◌*◌, ◌<◌, List, length, Bool, true, ◌&&◌, refl, sym, ◌⊎◌, inl, inr, subst}
use Rattle.bit_sets.specs.Rows.{row_has}
use Rattle.gt_core.specs.Literal.{opposite, range}
use Rattle.gt_core.specs.Interference.{has_clause, exclusive}
use Rattle.gt_core.proofs.published.Basics.{passing, any_at, and_split, and_both, or_split, or_left, or_right, same_test, test_same}
use Rattle.gt_core.proofs.published.Literals.{opposite_twice, among_range, below_range}
use Rattle.action_order.specs.own.Graph.{row_at}
use Rattle.action_order.specs.own.Readers.{is_excluded}
use Rattle.action_order.proofs.ReadersLaw.{opposite_below}

-- Which actions have a precondition that a literal excludes: by its opposite, by a clause with its opposite, or by a
-- clause of one literal.

-- the opposite of a literal of so many facts is one too
pub opposite_within : (n facts : ℕ) → n ≡ 2 * facts → (l : ℕ) → l < n → opposite l < n
opposite_within n facts is l lt = subst (λ (k : ℕ). opposite l < k) (sym is) (opposite_below l facts (subst (λ (k : ℕ). l < k) is lt))

module _ (clauses : List (ℕ × ℕ)) (needing : List (List ℕ)) (p b : ℕ) where
  abbrev test : ℕ → Bool
  test q = exclusive clauses p q && row_has (row_at needing q) b

  abbrev Excluded : Type 0
  Excluded = is_excluded clauses needing p (length needing) b ≡ true

  excluded_at : (q : ℕ) → q < length needing → exclusive clauses p q ≡ true → row_has (row_at needing q) b ≡ true → Excluded
  excluded_at q lt ex h = any_at test (range (length needing)) q (among_range (length needing) 0 q (omega arith) (omega arith)) (and_both _ _ ex h)

  pub by_opposite : opposite p < length needing → row_has (row_at needing (opposite p)) b ≡ true → Excluded
  by_opposite lt h = excluded_at (opposite p) lt (or_left _ _ (same_test (opposite p) (opposite p) refl)) h

  pub by_clause : (m : ℕ) → opposite m < length needing → has_clause clauses (opposite p) m ≡ true → row_has (row_at needing (opposite m)) b ≡ true → Excluded
  by_clause m lt v h = excluded_at (opposite m) lt
      (or_right (opposite m == opposite p) _ (or_left _ _ (subst (λ (k : ℕ). has_clause clauses (opposite p) k ≡ true) (sym (opposite_twice m)) v))) h

  pub by_lone : (m : ℕ) → opposite m < length needing → has_clause clauses m m ≡ true → row_has (row_at needing (opposite m)) b ≡ true → Excluded
  by_lone m lt v h = excluded_at (opposite m) lt
      (or_right (opposite m == opposite p) _ (or_right (has_clause clauses (opposite p) (opposite (opposite m))) _ (or_right (has_clause clauses (opposite p) (opposite p)) _
      (subst (λ (k : ℕ). has_clause clauses k k ≡ true) (sym (opposite_twice m)) v)))) h

  -- what an excluded literal is
  pub record Excluder : Type 0 where
    pub one : ℕ
    pub below : one < length needing
    pub needed : row_has (row_at needing one) b ≡ true
    pub why : (one ≡ opposite p) ⊎ ((has_clause clauses (opposite p) (opposite one) ≡ true) ⊎ ((has_clause clauses (opposite p) (opposite p) ≡ true) ⊎ (has_clause clauses (opposite one) (opposite one) ≡ true)))

  why_of : (q : ℕ) → exclusive clauses p q ≡ true → (q ≡ opposite p) ⊎ ((has_clause clauses (opposite p) (opposite q) ≡ true) ⊎ ((has_clause clauses (opposite p) (opposite p) ≡ true) ⊎ (has_clause clauses (opposite q) (opposite q) ≡ true)))
  why_of q e = elim (or_split (q == opposite p) _ e) [
    | inl s ↦ inl (test_same q (opposite p) s)
    | inr r ↦ inr (elim (or_split (has_clause clauses (opposite p) (opposite q)) _ r) [
      | inl v ↦ inl v
      | inr l ↦ inr (or_split (has_clause clauses (opposite p) (opposite p)) _ l)
    ])
  ]

  pub excluder : Excluded → Excluder
  excluder e =
      let q = passing test (range (length needing)) e in
      let x = and_split (exclusive clauses p q.one) _ q.passes in
      record { one = q.one; below = below_range (length needing) q.one q.among; needed = x.1; why = why_of q.one x.0 }
