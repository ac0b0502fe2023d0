use Rattle.std.proofs.Common.{arith, ◌≡◌, ◌∙◌, ◌+◌, ◌≤◌, ◌<◌, ◌⊎◌, inl, inr, not, ap, subst, sym, true, false, refl, Bool, ℕ, List}
use Rattle.std.proofs.lemmas.Bool.{cases_lt}
use Rattle.bit_sets.specs.Rows.{row_has}
use Rattle.gt_core.proofs.published.Basics.{and_split, apart}
use Rattle.implied_literals.specs.Rows.{clause_in}
use Rattle.two_invariants.proofs.harmless.is_harmless.Goals as goal

off : (b : Bool) → not b ≡ true → b ≡ false
off true e = sym e
off false e = refl

pub is_row_among-requires-clause-clauses : goal.is_row_among-requires-clause-clauses
is_row_among-requires-clause-clauses c = c.requires.lits c.in-Some.l c.in-Some.ensures.1

pub is_row_among-requires-clause-lost : goal.is_row_among-requires-clause-lost
is_row_among-requires-clause-lost c = subst (λ (n : ℕ). c.in-Some.l < n) (sym c.requires.lost) (c.requires.lits c.in-Some.l c.in-Some.ensures.1)

pub loop-l-preserved : goal.loop-l-preserved
loop-l-preserved c = record {
  there = c.loop-l.invariant.there;
  kept = λ k m lt i v f. by k m lt i v f (cases_lt k c.in-Some.l);
}
  where
    there : ℕ → Bool
    there = row_has c.subtract-2.new.self

    by : (k m : ℕ) → k < c.in-Some.l + 1 → row_has c.args.group.now.opposites k ≡ true → clause_in c.args.clauses.now k m ≡ true → clause_in c.args.lost.now k m ≡ false → (k < c.in-Some.l) ⊎ (c.in-Some.l ≤ k) → there m ≡ true
    by k m lt i v f (inl below) = low (cases_lt k c.loop-l.from)
      where
        low : (k < c.loop-l.from) ⊎ (c.loop-l.from ≤ k) → there m ≡ true
        low (inl h) = c.loop-l.invariant.kept k m h i v f
        low (inr h) = absurd (apart (row_has c.args.group.now.opposites k) i (c.in-Some.ensures.2 k h below))
    by k m lt i v f (inr le) =
        let e : k ≡ c.in-Some.l = omega (arith, lt, le) in
        ap (λ (r : List ℕ). row_has r m) (sym c.loop-l.invariant.there)
        ∙ c.in_ok-among.ensures c.if-not-among.false m (subst (λ (x : ℕ). clause_in c.args.clauses.now x m ≡ true) e v) (subst (λ (x : ℕ). clause_in c.args.lost.now x m ≡ false) e f)

pub returns : goal.returns
returns c = λ _ l m i v f.
    let second = and_split _ _ (sym (c.subtract-2.ensures.has m) ∙ inside l m i v f (cases_lt l c.loop-l.from)) in
    let first = and_split _ _ (sym (c.subtract.ensures.has m) ∙ second.0) in
    (ap (λ (r : _). row_has r m) (sym c.in_ok-make_same.ensures) ∙ first.0, off _ first.1, off _ second.1)
  where
    inside : (l m : ℕ) → row_has c.args.group.now.opposites l ≡ true → clause_in c.args.clauses.now l m ≡ true → clause_in c.args.lost.now l m ≡ false → (l < c.loop-l.from) ⊎ (c.loop-l.from ≤ l) → row_has c.subtract-2.new.self m ≡ true
    inside l m i v f (inl h) = c.loop-l.invariant.kept l m h i v f
    inside l m i v f (inr h) = absurd (apart (row_has c.args.group.now.opposites l) i (c.in_default.ensures l h))
