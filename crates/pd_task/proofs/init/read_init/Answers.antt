use Rattle.std.proofs.Common.{[]}
use Rattle.pd_task.specs.Declarations.{and_init}
use Rattle.pd_task.specs.own.Scope.{names_with}
use Rattle.pd_task.proofs.Ands.{each_is, item_read, item_handed_on}
use Rattle.pd_task.proofs.init.read_init.Goals as goal

pub loop-item-preserved : goal.loop-item-preserved
loop-item-preserved c = item_read (each_is (and_init (names_with c.args.vocabulary.now []))) _ _ _ _ _ _ c.loop-item-test.true c.item-item.is c.loop-item.invariant c.in_ok-read_item.ensures

pub returns-in_err-read_item : goal.returns-in_err-read_item
returns-in_err-read_item c = item_handed_on (each_is (and_init (names_with c.args.vocabulary.now []))) _ _ _ _ _ _ _ _ c.loop-item-test.true c.item-item.is c.loop-item.invariant c.in_err-read_item.ensures c.from_residual.ensures.1
