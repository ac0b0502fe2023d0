use Rattle.std.proofs.Common.{◌≡◌, ◌∙◌, ◌<◌, ◌||◌, inl, inr, ap, sym, subst, Bool, true, length, List, [], ℕ}
use Rattle.std.proofs.lemmas.List.{get_or_read}
use Rattle.std.proofs.lemmas.Bool.{lt-ltb}
use Rattle.bit_sets.specs.Rows.{row_has}
use Rattle.gt_core.specs.Literal.{opposite}
use Rattle.gt_core.specs.Interference.{has_clause}
use Rattle.gt_core.proofs.published.Basics.{apart, and_split, and_both, or_right, or_split, same_if}
use Rattle.gt_core.proofs.published.Literals.{opposite_twice}
use Rattle.action_order.specs.own.Graph.{row_at}
use Rattle.action_order.specs.own.Readers.{is_excluded}
use Rattle.action_order.proofs.ExclusionLaw.{opposite_within, by_opposite, by_clause, by_lone, Excluder, excluder}
use Rattle.action_order.proofs.readers.excluded.Goals as goal

pub returns : goal.returns
returns c = λ b. same_if _ _ (found b) (λ e. all b (excluder clauses needing c.args.p b e))
  where
    clauses : List (ℕ × ℕ)
    clauses = c.args.pairs.now.clauses

    needing : List (List ℕ)
    needing = c.args.needing.now

    alone : ℕ → Bool
    alone = row_has c.args.alone.now

    row : ℕ → Bool
    row = row_has c.add_opposed-2.new.row

    even : (l : ℕ) → l < length needing → opposite l < length needing
    even = opposite_within (length needing) c.args.pairs.now.facts c.requires.long

    other_below : opposite c.args.p < length needing
    other_below = even c.args.p c.requires.p

    read : c.index-needing-other.result ≡ row_at needing (opposite c.args.p)
    read = get_or_read needing c.opposite-other.result c.index-needing-other.result (subst (λ (k : ℕ). k < length needing) (sym c.opposite-other.ensures) other_below) c.index-needing-other.is [] ∙ ap (row_at needing) c.opposite-other.ensures

    start : (b : ℕ) → row_has c.unite.new.self b ≡ (row_has c.new-row.result b || row_has (row_at needing (opposite c.args.p)) b)
    start b = c.in_ok-unite.ensures.has b ∙ ap (λ (r : List ℕ). row_has c.new-row.result b || row_has r b) read

    partners : (m : ℕ) → m < length needing → row_has c.row-partners.result.now m ≡ has_clause clauses (opposite c.args.p) m
    partners m lt = c.row-partners.ensures m (subst (λ (n : ℕ). m < n) c.requires.long lt) ∙ ap (λ (k : ℕ). has_clause clauses k m) c.opposite-other.ensures

    found : (b : ℕ) → row b ≡ true → is_excluded clauses needing c.args.p (length needing) b ≡ true
    found b t = elim (c.in_ok-add_opposed-2.ensures.only b t) [
      | inl u ↦ elim (c.in_ok-add_opposed.ensures.only b u) [
        | inl s ↦ elim (or_split _ _ (sym (start b) ∙ s)) [
          | inl n ↦ absurd (apart (row_has c.new-row.result b) n (c.new-row.ensures.empty b))
          | inr o ↦ by_opposite clauses needing c.args.p b other_below o
        ]
        | inr x ↦ by_clause clauses needing c.args.p b x.0 (even x.0 x.1) (sym (partners x.0 x.1) ∙ x.2) x.3
      ]
      | inr x ↦ by_lone clauses needing c.args.p b x.0 (even x.0 x.1) (and_split _ _ (sym (c.requires.alone x.0) ∙ x.2)).1 x.3
    ]

    back : (q b : ℕ) → row_has (row_at needing q) b ≡ true → row_has (row_at needing (opposite (opposite q))) b ≡ true
    back q b h = subst (λ (k : ℕ). row_has (row_at needing k) b ≡ true) (sym (opposite_twice q)) h

    free : has_clause clauses (opposite c.args.p) (opposite c.args.p) ≡ true → ⊥
    free v = apart (alone (opposite c.args.p)) (c.requires.alone (opposite c.args.p) ∙ and_both _ _ (lt-ltb (opposite c.args.p) (length needing) other_below) v)
        (ap alone (sym c.opposite-other.ensures) ∙ sym c.contains.ensures ∙ c.if-contains.false)

    all : (b : ℕ) → Excluder clauses needing c.args.p b → row b ≡ true
    all b x = elim x.why [
      | inl s ↦ c.in_ok-add_opposed-2.ensures.old b (c.in_ok-add_opposed.ensures.old b (start b ∙ or_right _ _ (subst (λ (k : ℕ). row_has (row_at needing k) b ≡ true) s x.needed)))
      | inr r ↦ elim r [
        | inl v ↦ c.in_ok-add_opposed-2.ensures.old b (c.in_ok-add_opposed.ensures.all (opposite x.one) (even x.one x.below) (partners (opposite x.one) (even x.one x.below) ∙ v) b (back x.one b x.needed))
        | inr l ↦ elim l [
          | inl v ↦ absurd (free v)
          | inr v ↦ c.in_ok-add_opposed-2.ensures.all (opposite x.one) (even x.one x.below)
              (c.requires.alone (opposite x.one) ∙ and_both _ _ (lt-ltb (opposite x.one) (length needing) (even x.one x.below)) v) b (back x.one b x.needed)
        ]
      ]
    ]

pub add_opposed-requires-clause-even : goal.add_opposed-requires-clause-even
add_opposed-requires-clause-even c = opposite_within (length c.args.needing.now) c.args.pairs.now.facts c.requires.long

pub add_opposed-requires-2-clause-even : goal.add_opposed-requires-2-clause-even
add_opposed-requires-2-clause-even c = opposite_within (length c.args.needing.now) c.args.pairs.now.facts c.requires.long
