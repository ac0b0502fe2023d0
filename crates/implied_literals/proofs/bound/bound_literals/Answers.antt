use Rattle.std.proofs.Common.{arith, ◌≡◌, ◌∙◌, ◌<◌, ◌+◌, ◌≤◌, ◌⊎◌, inl, inr, ap, sym, subst, true, length, ℕ, List, []}
use Rattle.std.proofs.lemmas.List.{get_or_read}
use Rattle.std.proofs.lemmas.Bool.{cases_lt}
use Rattle.bit_sets.specs.Rows.{row_has}
use Rattle.gt_core.specs.Literal.{opposite}
use Rattle.gt_core.proofs.published.Basics.{apart}
use Rattle.gt_core.proofs.published.Literals.{opposite_twice}
use Rattle.implied_literals.specs.Rows.{clause_in}
use Rattle.implied_literals.proofs.published.Steps.{past_rows}
use Rattle.implied_literals.proofs.bound.bound_literals.Goals as goal

pub loop-l-preserved : goal.loop-l-preserved
loop-l-preserved c = λ k m lt v. by k m v lt (cases_lt k c.loop-l.l)
  where
    by : (k m : ℕ) → clause_in c.args.clauses.now k m ≡ true → k < c.loop-l.l + 1 → (k < c.loop-l.l) ⊎ (c.loop-l.l ≤ k)
        → (row_has c.note_bound.new.bound.literals k ≡ true) × (row_has c.note_bound.new.bound.opposites (opposite k) ≡ true)
    by k m v lt (inl l) =
        let old = c.loop-l.invariant k m l v in
        (c.in_ok-note_bound.ensures.literals k old.0, c.in_ok-note_bound.ensures.opposites (opposite k) old.1)
    by k m v lt (inr ge) =
        let e : c.loop-l.l ≡ k = omega arith in
        let long : c.loop-l.l < length c.args.clauses.now = subst (λ (n : ℕ). c.loop-l.l < n) (sym c.requires.long) c.loop-l-test.true in
        let read = get_or_read c.args.clauses.now c.loop-l.l c.index-clauses-l.result long c.index-clauses-l.is [] in
        subst (λ (x : ℕ). clause_in c.args.clauses.now x m ≡ true → (row_has c.note_bound.new.bound.literals x ≡ true) × (row_has c.note_bound.new.bound.opposites (opposite x) ≡ true)) e
        (λ w. c.in_ok-note_bound.ensures.own m (ap (λ (r : List ℕ). row_has r m) read ∙ w)) v

pub returns : goal.returns
returns c = record {
  literals = λ l m v. (c.loop-l.invariant l m (below l m v (cases_lt l c.loop-l.l)) v).0;
  opposites = λ l m v. subst (λ (k : ℕ). row_has c.loop-l.bound.opposites k ≡ true) (opposite_twice l) (c.loop-l.invariant (opposite l) m (below (opposite l) m v (cases_lt (opposite l) c.loop-l.l)) v).1;
}
  where
    below : (k m : ℕ) → clause_in c.args.clauses.now k m ≡ true → (k < c.loop-l.l) ⊎ (c.loop-l.l ≤ k) → k < c.loop-l.l
    below k m v (inl l) = l
    below k m v (inr ge) = absurd (apart (clause_in c.args.clauses.now k m) v (past_rows c.args.clauses.now k m (omega (arith, ge, c.requires.long, c.loop-l-test.false))))
