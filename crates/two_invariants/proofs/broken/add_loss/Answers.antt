use Rattle.std.proofs.Common.{◌≡◌, ◌∙◌, ◌==◌, ◌&&◌, ◌||◌, not, ap, sym, Bool, ℕ, [], true, false, refl}
use Rattle.std.proofs.lemmas.List.{get_or_read}
use Rattle.bit_sets.specs.Rows.{row_has}
use Rattle.gt_core.proofs.published.Basics.{test_same}
use Rattle.implied_literals.specs.Breaks.{is_add}
use Rattle.implied_literals.specs.Rows.{clause_in, row_at}
use Rattle.two_invariants.proofs.Dropping.{row_more}
use Rattle.two_invariants.proofs.broken.add_loss.Goals as goal

-- a loss is of one literal alone, which may be taken
lost_is : (V : ℕ → ℕ → Bool) (taken sure : ℕ → Bool) (l a m : ℕ) → taken l ≡ true → ((l == a) && (V l m && not (sure m))) ≡ ((l == a) && (V a m && (taken a && not (sure m))))
lost_is V taken sure l a m here = by (l == a) refl
  where
    by : (b : Bool) → (l == a) ≡ b → (b && (V l m && not (sure m))) ≡ (b && (V a m && (taken a && not (sure m))))
    by true e = ap (λ (t : Bool). V l m && (t && not (sure m))) (sym here) ∙ ap (λ (k : ℕ). V k m && (taken k && not (sure m))) (test_same l a e)
    by false e = refl

pub returns-clause-lost : goal.returns-clause-lost
returns-clause-lost c a m =
    let lost = c.args.lost.now.items in
    let l = c.args.l in
    let sure = row_has c.args.sure.now in
    let clauses = get_or_read c.args.clauses.now l c.index-clauses-l-2.result c.requires.clauses c.index-clauses-l-2.is [] in
    let row = get_or_read lost l c.index_mut-row.result.now c.requires.rows c.index_mut-row.ensures.value [] in
    let has : (b : ℕ) → row_has c.unite_without.new.self b ≡ (row_has (row_at lost l) b || (clause_in c.args.clauses.now l b && not (sure b))) = λ b.
    c.in_ok-unite_without.ensures.has b
    ∙ (λ i. row_has (row i) b || (row_has (clauses i) b && not (sure b))) in
    row_more lost l c.unite_without.new.self (λ b. clause_in c.args.clauses.now l b && not (sure b)) c.requires.rows has a m
    ∙ ap (λ (b : Bool). clause_in lost a m || b) (lost_is (clause_in c.args.clauses.now) (λ k. not (is_add k && row_has c.args.given.now k)) sure l a m (sym c.is_taken.ensures ∙ c.if-not-is_taken.false))
