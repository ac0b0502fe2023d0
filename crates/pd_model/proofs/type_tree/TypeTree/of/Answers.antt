use Rattle.pd_model.proofs.type_tree.TypeTree.of.Goals as goal

pub loop-preserved : goal.loop-preserved
loop-preserved c = c.step.ensures.goes_on c.loop-test.true
