use Rattle.pd_task.specs.Declarations.{and_predicate}
use Rattle.pd_task.proofs.Ands.{each_is, item_read, item_handed_on}
use Rattle.pd_task.proofs.predicates.read_predicates.Goals as goal

pub loop-item-preserved : goal.loop-item-preserved
loop-item-preserved c = item_read (each_is (and_predicate c.args.types.now)) _ _ _ _ _ _ c.loop-item-test.true c.item-item.is c.loop-item.invariant c.in_ok-read.ensures

pub returns-in_err-read : goal.returns-in_err-read
returns-in_err-read c = item_handed_on (each_is (and_predicate c.args.types.now)) _ _ _ _ _ _ _ _ c.loop-item-test.true c.item-item.is c.loop-item.invariant c.in_err-read.ensures c.from_residual.ensures.1
