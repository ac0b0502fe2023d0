use Rattle.std.proofs.Common.{sym, ◌∙◌, rules}
use Rattle.pd_task.proofs.Sizes.{item_smaller}
use Rattle.pd_task.proofs.Ands.{conditions_listed, and_fails, and_ends}
use Rattle.pd_task.proofs.cond.+read_cond.Goals as goal

pub read_cond-requires : goal.read_cond-requires
read_cond-requires t c = let smaller = item_smaller _ _ _ _ _ _ (rw c.in-Some.is at c.in_ok-list.ensures.list).0 c.loop-item-test.true c.item-item.is in search rules

pub returns-in_err-read_cond-in-And : goal.returns-in_err-read_cond-in-And
returns-in_err-read_cond-in-And t c =
    and_fails (conditions_listed _) _ _ _ _ _ _ _ _ _ _ _ (rw c.in-Some.is at c.in_ok-list.ensures.list).0 (sym c.head_keyword.ensures ∙ c.in-And.is) c.loop-item-test.true c.item-item.is c.loop-item.invariant c.in_err-read_cond-in-And.ensures c.from_residual-in_err-read_cond-in-And.ensures.1

pub returns-in-And : goal.returns-in-And
returns-in-And t c =
    and_ends (conditions_listed _) _ _ _ _ _ _ _ (rw c.in-Some.is at c.in_ok-list.ensures.list).0 (sym c.head_keyword.ensures ∙ c.in-And.is) c.loop-item-test.false c.loop-item.invariant
