use Rattle.std.proofs.Common.{arith, ◌≡◌, ◌+◌, ◌<◌, ◌≤◌, ◌&&◌, ◌⊎◌, inl, inr, subst, true, false, ℕ}
use Rattle.std.proofs.lemmas.Bool.{cases_lt}
use Rattle.bit_sets.specs.Rows.{row_has}
use Rattle.gt_core.proofs.published.Basics.{apart, cases, and_split, and_both}
use Rattle.two_invariants.specs.own.Numbers.{finds}
use Rattle.two_invariants.specs.own.Index.{IsNumbered, takes_in}
use Rattle.two_invariants.specs.declared.groups.Group.{Group}
use Rattle.two_invariants.proofs.takers.take_all_listed.Goals as goal

pub loop-l-preserved : goal.loop-l-preserved
loop-l-preserved c =
    record {
      less = λ m t. c.loop-l.invariant.less m (c.in_ok-take_by_listed.ensures.less m t);
      lost = λ m old new. elim (cases (row_has c.loop-l.sure m)) [
        | inl t ↦ c.in_ok-take_by_listed.ensures.lost m t new
        | inr f ↦ c.loop-l.invariant.lost m old f
      ];
      done = λ m n g lt s found at. elim (cases_lt m c.loop-l.from) [
        | inl l ↦ c.loop-l.invariant.done m n g l (c.in_ok-take_by_listed.ensures.less m s) found at
        | inr ge ↦ rest m n g lt ge s found at (cases_lt m c.in-Some.l)
      ];
    }
  where
    rest : (m n : ℕ) (g : Group) → m < c.in-Some.l + 1 → c.loop-l.from ≤ m → row_has c.take_by_listed.new.sure m ≡ true → finds c.args.here.now.takers.now.by m n ≡ true → IsNumbered c.args.here.now.before.now.groups.now n g
        → (m < c.in-Some.l) ⊎ (c.in-Some.l ≤ m) → takes_in c.args.here.now.before.now.facts c.args.here.now.before.now.rows.now c.args.here.now.before.now.groups.now (row_has c.args.here.now.set.now) g m ≡ false
    rest m n g lt ge s found at (inl l) =
        absurd (apart (row_has c.args.here.now.takers.now.by.literals m && row_has c.loop-l.sure m) (and_both _ _ (and_split _ _ found).0 (c.in_ok-take_by_listed.ensures.less m s)) (c.in-Some.ensures.2 m ge l))
    rest m n g lt ge s found at (inr h) =
        let e : c.in-Some.l ≡ m = omega arith in
        subst (λ (k : ℕ). row_has c.take_by_listed.new.sure k ≡ true → finds c.args.here.now.takers.now.by k n ≡ true → IsNumbered c.args.here.now.before.now.groups.now n g → takes_in c.args.here.now.before.now.facts c.args.here.now.before.now.rows.now c.args.here.now.before.now.groups.now (row_has c.args.here.now.set.now) g k ≡ false) e (λ s f a. c.in_ok-take_by_listed.ensures.own s n g (and_split _ _ f).1 a) s found at
