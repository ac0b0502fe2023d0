use Rattle.std.proofs.Common.{[]}
use Rattle.pd_task.specs.Reading.{and_section}
use Rattle.pd_task.specs.own.Scope.{names_with}
use Rattle.pd_task.proofs.Ands.{each_is, item_read, item_handed_on}
use Rattle.pd_task.proofs.actions.read_actions.Goals as goal

pub loop-section-preserved : goal.loop-section-preserved
loop-section-preserved c = item_read (each_is (and_section c.args.vocabulary.now.types.now (names_with c.args.vocabulary.now []))) _ _ _ _ _ _ c.loop-section-test.true c.section-item.is c.loop-section.invariant c.in_ok-read_section.ensures

pub returns-in_err-read_section : goal.returns-in_err-read_section
returns-in_err-read_section c = item_handed_on (each_is (and_section c.args.vocabulary.now.types.now (names_with c.args.vocabulary.now []))) _ _ _ _ _ _ _ _ c.loop-section-test.true c.section-item.is c.loop-section.invariant c.in_err-read_section.ensures c.from_residual.ensures.1
