use Rattle.std.proofs.Common.{◌≡◌, ap, sym, ◌∙◌, rules}
use Rattle.pd_model.specs.Sameness.{Under}
use Rattle.pd_task.proofs.Sizes.{item_smaller}
use Rattle.pd_task.proofs.Ands.{literals_listed, item_read, and_fails, and_ends}
use Rattle.pd_task.proofs.effects.+read_literals.Goals as goal

pub read_literals-requires : goal.read_literals-requires
read_literals-requires t c =
    let smaller = item_smaller _ _ _ _ _ _ (rw c.in-Some.is at c.in_ok-list.ensures.list).0 c.loop-item-test.true c.item-item.is in
    let over : c.loop-item.into.under.over ≡ c.args.scope.now.over = ap (λ (u : Under). u.over) c.loop-item.invariant.0 ∙ c.requires in
    search rules

pub returns-in_err-read_literals-in-And-clause-effects : goal.returns-in_err-read_literals-in-And-clause-effects
returns-in_err-read_literals-in-And-clause-effects t c =
    let here = rw c.loop-item.invariant.0 at c.in_err-read_literals-in-And.ensures.effects in
    and_fails (literals_listed _) _ _ _ _ _ _ _ _ _ _ _ (rw c.in-Some.is at c.in_ok-list.ensures.list).0 (sym c.head_keyword.ensures ∙ c.in-And.is) c.loop-item-test.true c.item-item.is c.loop-item.invariant.1 here c.from_residual-in_err-read_literals-in-And.ensures.1

pub loop-item-preserved : goal.loop-item-preserved
loop-item-preserved t c =
    let here = rw c.loop-item.invariant.0 at c.in_ok-read_literals-in-And.ensures.effects in
    (c.in_ok-read_literals-in-And.ensures.under ∙ c.loop-item.invariant.0, item_read (literals_listed _).items _ _ _ _ _ _ c.loop-item-test.true c.item-item.is c.loop-item.invariant.1 here)

pub returns-after-loop-item-clause-effects : goal.returns-after-loop-item-clause-effects
returns-after-loop-item-clause-effects t c =
    and_ends (literals_listed _) _ _ _ _ _ _ _ (rw c.in-Some.is at c.in_ok-list.ensures.list).0 (sym c.head_keyword.ensures ∙ c.in-And.is) c.loop-item-test.false c.loop-item.invariant.1
