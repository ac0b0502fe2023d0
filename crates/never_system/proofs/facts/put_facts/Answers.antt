use Rattle.never_system.specs.Blif.{fact_tables}
use Rattle.never_system.proofs.Texts.{numbered_more}
use Rattle.never_system.proofs.facts.put_facts.Goals as goal

pub loop-fact-preserved : goal.loop-fact-preserved
loop-fact-preserved c = numbered_more (fact_tables c.args.task.now) c.loop-fact.fact c.args.text.now.items c.loop-fact.text.items c.put_fact.new.text.items c.loop-fact.invariant c.in_ok-put_fact.ensures
