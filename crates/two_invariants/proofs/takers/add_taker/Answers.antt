use Rattle.std.proofs.Common.{◌≡◌, ◌∙◌, ◌*◌, ◌<◌, ◌==◌, ◌&&◌, ◌⊎◌, inl, inr, ap, sym, subst, not, true, length, vec_len, List, ℕ, rules}
use Rattle.std.specs.List.{AllByRecursion}
use Rattle.bit_sets.specs.Rows.{row_has}
use Rattle.gt_core.proofs.published.Basics.{or_split, or_left, or_right, and_both}
use Rattle.implied_literals.specs.Tested.{with_more, has_no_pair}
use Rattle.implied_literals.proofs.published.Exact.{pair_test_is}
use Rattle.two_invariants.proofs.Steps.{more_within}
use Rattle.two_invariants.proofs.takers.add_taker.Goals as goal

pub returns-then-is_empty-clause-plain : goal.returns-then-is_empty-clause-plain
returns-then-is_empty-clause-plain c = λ m t. by m (or_split _ _ (sym (c.in_ok-unite.ensures.has m) ∙ t))
  where
    by : (m : ℕ) → (row_has c.args.takers.now.plain m ≡ true) ⊎ (row_has c.args.group.now.opposites m ≡ true)
        → (row_has c.args.takers.now.plain m ≡ true) ⊎ ((row_has c.args.group.now.opposites m && (length c.args.group.now.condition.items == 0)) ≡ true)
    by m (inl h) = inl h
    by m (inr h) =
        let long : vec_len c.args.group.now.condition ≡ length c.args.group.now.condition.items = search rules in
        inr (and_both _ _ h (ap (λ (n : ℕ). n == 0) (sym long) ∙ sym c.if-is_empty.ensures))

pub returns-then-is_empty-clause-more : goal.returns-then-is_empty-clause-more
returns-then-is_empty-clause-more c = λ m t. c.in_ok-unite.ensures.has m ∙ or_left _ _ t

pub returns-then-is_empty-clause-own : goal.returns-then-is_empty-clause-own
returns-then-is_empty-clause-own c = λ m o. inl (c.in_ok-unite.ensures.has m ∙ or_right _ _ o)

pub fill_with-requires : goal.fill_with-requires
fill_with-requires c =
    subst (λ (ls : List ℕ). AllByRecursion (λ l. l < length c.args.before.now.rows.now) ls) (sym c.as_slice.ensures.value)
    (subst (λ (n : ℕ). AllByRecursion (λ l. l < n) c.args.group.now.condition.items) (sym c.requires.before.rows.long) c.requires.group.condition)

pub returns-then-has_pair-clause-own : goal.returns-then-has_pair-clause-own
returns-then-has_pair-clause-own c = λ m o.
    let facts = c.args.before.now.facts in
    let rows = c.args.before.now.rows.now in
    let set = row_has c.args.before.now.set.now in
    let there : row_has c.fill_with.new.row ≡ with_more rows set c.args.group.now.condition.items = (λ i k. c.in_ok-fill_with.ensures k i) ∙ (λ i. with_more rows set (c.as_slice.ensures.value i)) in
    let within : (k : ℕ) → row_has c.fill_with.new.row k ≡ true → k < 2 * facts = λ k t. more_within (2 * facts) rows set c.as_slice.result.now c.requires.before.rows c.requires.before.set k (sym (c.in_ok-fill_with.ensures k) ∙ t) in
    inr (inl (ap (has_no_pair facts) (sym there) ∙ sym (pair_test_is facts (row_has c.fill_with.new.row) c.has_pair.result within c.has_pair.ensures) ∙ ap not c.if-has_pair.true))
