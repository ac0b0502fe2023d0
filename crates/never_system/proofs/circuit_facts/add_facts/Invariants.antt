use Rattle.std.proofs.Common.{◌≡◌, ◌-◌}
use Rattle.never_system.specs.Aiger.{with_facts}
use Rattle.never_system.proofs.circuit_facts.add_facts.Given as goal

abbrev pub invariant-loop-fact : goal.invariant-loop-fact
invariant-loop-fact l = with_facts l.task l.width l.task.facts 0 l.initial.circuit ≡ with_facts l.task l.width (l.task.facts - l.fact) l.fact l.circuit
