use Rattle.action_order.specs.own.Readers.{AreExclusions}
use Rattle.action_order.proofs.readers.find_exclusions.Given as goal

abbrev pub invariant-loop-p : goal.invariant-loop-p
invariant-loop-p l = AreExclusions l.pairs.clauses l.needing l.p l.rows.items
