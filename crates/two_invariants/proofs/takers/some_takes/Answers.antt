use Rattle.std.proofs.Common.{arith, ◌≡◌, ◌∙◌, ◌==◌, ap, sym, subst, true, length, take, List, ℕ, get_or, inl, inr}
use Rattle.std.specs.List.{list_any}
use Rattle.std.proofs.Math.Seq.{take-length}
use Rattle.std.proofs.lemmas.List.Folds.{list_any_more}
use Rattle.gt_core.proofs.published.Basics.{or_split, test_same}
use Rattle.two_invariants.specs.own.Index.{IsNumbered}
use Rattle.two_invariants.proofs.takers.some_takes.Goals as goal

pub returns-clause-none : goal.returns-clause-none
returns-clause-none c = λ _ n g some at.
    let numbers = c.args.numbers.now in
    let end : c.loop-number.number-index ≡ length numbers = omega (arith, c.loop-number-test.false, c.loop-number.auto.number-index-end) in
    let all : take c.loop-number.number-index numbers ≡ numbers = ap (λ (k : ℕ). take k numbers) end ∙ take-length numbers in
    c.loop-number.invariant n g (subst (λ (ns : List ℕ). list_any (λ k. k == n) ns ≡ true) (sym all) some) at

pub loop-number-preserved : goal.loop-number-preserved
loop-number-preserved c n g some at =
    let numbers = c.args.numbers.now in
    let i = c.loop-number.number-index in
    elim (or_split _ _ (sym (list_any_more (λ k. k == n) numbers i 0 c.loop-number-test.true) ∙ some)) [
      | inl o ↦ c.loop-number.invariant n g o at
      | inr e ↦ c.in_ok-takes_at.ensures.none c.if-branch.false g (subst (λ (k : ℕ). IsNumbered c.args.here.now.before.now.groups.now k g) (sym (test_same (get_or numbers i 0) n e)) at)
    ]
