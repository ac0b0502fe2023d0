use Rattle.std.proofs.Common.{arith, ◌≡◌, ◌∙◌, ◌==◌, ◌&&◌, ◌+◌, ◌⊎◌, inl, inr, ap, sym, true, false, not, ℕ, List, [], Bool, drop}
use Rattle.std.proofs.lemmas.List.{drop_all}
use Rattle.bit_sets.specs.Rows.{row_has}
use Rattle.gt_core.specs.Literal.{opposite}
use Rattle.gt_core.specs.Task.{Effect}
use Rattle.gt_core.proofs.published.Basics.{or_split, test_same}
use Rattle.implied_literals.specs.Rows.{clause_in}
use Rattle.two_invariants.specs.own.Plain.{has_opposite}
use Rattle.two_invariants.proofs.Grouping.{opposite_fits}
use Rattle.two_invariants.proofs.Steps.{any_rest}
use Rattle.two_invariants.proofs.harmless.are_harmless.Goals as goal

pub is_row_among-requires-clause-lost : goal.is_row_among-requires-clause-lost
is_row_among-requires-clause-lost c = opposite_fits c.args.facts c.args.effects.now c.requires.effects c.loop-effect-test.true c.effect-item.is c.lit.ensures c.opposite-l.ensures c.requires.lost

pub is_row_among-requires-clause-clauses : goal.is_row_among-requires-clause-clauses
is_row_among-requires-clause-clauses c = opposite_fits c.args.facts c.args.effects.now c.requires.effects c.loop-effect-test.true c.effect-item.is c.lit.ensures c.opposite-l.ensures c.requires.clauses.long

pub loop-effect-preserved : goal.loop-effect-preserved
loop-effect-preserved c = record {
  there = c.loop-effect.invariant.there;
  kept = λ k m v f o rest. c.loop-effect.invariant.kept k m v f o (λ t. by k m v f rest (or_split _ _ (sym (any_rest (λ (e : Effect). opposite e.literal == k) c.args.effects.now c.loop-effect.effect-index c.effect-item.result c.loop-effect-test.true c.effect-item.is) ∙ t)));
}
  where
    there : ℕ → Bool
    there = row_has c.remove_opposites.new.set

    by : (k m : ℕ) → clause_in c.args.clauses.now k m ≡ true → clause_in c.args.lost.now k m ≡ false → (has_opposite (drop (c.loop-effect.effect-index + 1) c.args.effects.now) k ≡ true → there m ≡ true)
        → ((opposite c.effect-item.result.literal == k) ≡ true) ⊎ (has_opposite (drop (c.loop-effect.effect-index + 1) c.args.effects.now) k ≡ true) → there m ≡ true
    by k m v f rest (inr h) = rest h
    by k m v f rest (inl e) =
        let same : c.opposite-l.result ≡ k = c.opposite-l.ensures ∙ ap opposite c.lit.ensures ∙ test_same (opposite c.effect-item.result.literal) k e in
        ap (λ (r : List ℕ). row_has r m) (sym c.loop-effect.invariant.there)
        ∙ c.in_ok-among.ensures c.if-not-among.false m (ap (λ (n : ℕ). clause_in c.args.clauses.now n m) same ∙ v) (ap (λ (n : ℕ). clause_in c.args.lost.now n m) same ∙ f)

pub returns : goal.returns
returns c = λ _ l m o v f.
    let none : drop c.loop-effect.effect-index c.args.effects.now ≡ [] = drop_all c.loop-effect.effect-index c.args.effects.now (let f = c.loop-effect-test.false in omega arith) in
    let there = c.loop-effect.invariant.kept l m v f o (λ h. absurd (let e : false ≡ true = sym (ap (λ (es : List Effect). has_opposite es l) none) ∙ h in cc)) in
    ap (λ (r : List ℕ). row_has r m && not (has_opposite c.args.effects.now m)) (sym c.in_ok-make_same.ensures) ∙ sym (c.remove_opposites.ensures m) ∙ there
