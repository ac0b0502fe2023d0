use Rattle.std.proofs.Common.{◌≡◌, ◌++◌}
use Rattle.never_system.specs.Blif.{numbered, fact_tables}
use Rattle.never_system.proofs.facts.put_facts.Given as goal

abbrev pub invariant-loop-fact : goal.invariant-loop-fact
invariant-loop-fact l = l.text.items ≡ l.initial.text.items ++ numbered (fact_tables l.task) l.fact
