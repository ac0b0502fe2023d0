use Rattle.never_system.specs.Blif.{latch}
use Rattle.never_system.proofs.Texts.{numbered_more}
use Rattle.never_system.proofs.facts.put_latches.Goals as goal

pub loop-fact-preserved : goal.loop-fact-preserved
loop-fact-preserved c = numbered_more (latch c.args.task.now) c.loop-fact.fact c.args.text.now.items c.loop-fact.text.items c.put_latch.new.text.items c.loop-fact.invariant c.in_ok-put_latch.ensures
