use Rattle.std.proofs.Common.{◌==◌, ◌∙◌, ℕ, get_or, inl, inr, sym, subst}
use Rattle.std.proofs.lemmas.List.Folds.{list_any_more}
use Rattle.gt_core.proofs.published.Basics.{or_split, test_same}
use Rattle.two_invariants.specs.own.Index.{IsNumbered}
use Rattle.two_invariants.proofs.givers.give_listed.Goals as goal

pub loop-number-preserved : goal.loop-number-preserved
loop-number-preserved c =
    let i = c.loop-number.invariant in
    let one = c.in_ok-give_at.ensures in
    let numbers = c.args.numbers.now in
    let place = c.loop-number.number-index in
    record {
      more = λ m t. one.more m (i.more m t);
      sound = λ m t. elim (one.sound m t) [
        | inl o ↦ i.sound m o
        | inr n ↦ inr n
      ];
      done = λ n m g some at gives. elim (or_split _ _ (sym (list_any_more (λ k. k == n) numbers place 0 c.loop-number-test.true) ∙ some)) [
        | inl o ↦ one.more m (i.done n m g o at gives)
        | inr e ↦ one.done m g (subst (λ (k : ℕ). IsNumbered c.args.groups.now k g) (sym (test_same (get_or numbers place 0) n e)) at) gives
      ];
    }
