use Rattle.std.proofs.Common.{◌<◌, ℕ, [], length, get_or, refl, ◌∙◌}
use Rattle.gt_core.proofs.published.Lists.{each_number}
use Rattle.step_chains.proofs.IndexLaw.{index_more, empty_index}
use Rattle.step_chains.proofs.index.LinkIndex.fill.Goals as goal

pub loop-a-init : goal.loop-a-init
loop-a-init c = empty_index c.args.task.now [] c.clear.new.self refl (c.clear.ensures.long ∙ c.requires.long) c.clear.ensures.empty

pub loop-a-preserved : goal.loop-a-preserved
loop-a-preserved c =
    index_more c.args.task.now c.args.members.now c.loop-a.a-index 0 (get_or c.args.members.now c.loop-a.a-index 0) c.loop-a.self c.add.new.self c.requires.distinct c.loop-a-test.true refl c.loop-a.invariant c.in_ok-add.ensures.marks

pub add-requires-clause-a : goal.add-requires-clause-a
add-requires-clause-a c = each_number (λ (a : ℕ). a < length c.args.task.now.actions) c.args.members.now c.loop-a.a-index 0 c.requires.members c.loop-a-test.true
