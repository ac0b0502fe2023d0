use Rattle.std.proofs.Common.{◌≡◌, ◌++◌, drop}
use Rattle.never_system.specs.Blif.{fact_names}
use Rattle.never_system.proofs.names.put_fact_names.Given as goal

abbrev pub invariant-loop-lit : goal.invariant-loop-lit
invariant-loop-lit l = l.initial.text.items ++ fact_names l.lits ≡ l.text.items ++ fact_names (drop l.lit-index l.lits)
