use Rattle.std.proofs.Common.{◌≡◌, ◌∙◌, ◌==◌, ◌&&◌, ap, sym, subst, not, true, false, refl, Bool, ℕ}
use Rattle.bit_sets.specs.Rows.{row_has}
use Rattle.gt_core.proofs.published.Basics.{test_same}
use Rattle.implied_literals.specs.Breaks.{is_add}
use Rattle.two_invariants.specs.own.Groups.{group_with, may_lose}
use Rattle.two_invariants.proofs.Indexing.{overruled}
use Rattle.two_invariants.proofs.takers.take_by_listed.Goals as goal

pub returns-then-not-is_taken-clause-own : goal.returns-then-not-is_taken-clause-own
returns-then-not-is_taken-clause-own c = λ _ n g _ _.
    let l = c.args.l in
    overruled c.args.here.now.before.now.facts c.args.here.now.before.now.rows.now c.args.here.now.before.now.groups.now (row_has c.args.here.now.set.now) g l
    (ap (λ (b : Bool). is_add l && b) (sym (c.requires.here.given l)) ∙ on (is_add l && row_has c.args.here.now.given.now l) (sym c.is_taken.ensures ∙ c.if-not-is_taken.true))
  where
    on : (b : Bool) → not b ≡ false → b ≡ true
    on true e = refl
    on false e = cc

pub returns-then-branch-clause-lost : goal.returns-then-branch-clause-lost
returns-then-branch-clause-lost c = λ m old new.
    subst (λ (k : ℕ). may_lose c.args.here.now.before.now.facts c.args.here.now.before.now.rows.now (group_with c.args.here.now.before.now.groups.now) (row_has c.args.here.now.set.now) k ≡ true)
    (test_same c.args.l m (gone (c.args.l == m) (row_has c.args.sure.now m) old (sym (c.remove.ensures.has m) ∙ new)))
    (c.in_ok-some_takes.ensures.some c.if-branch.true)
  where
    gone : (e o : Bool) → o ≡ true → (not e && o) ≡ false → e ≡ true
    gone true o t f = refl
    gone false o t f = sym f ∙ t
