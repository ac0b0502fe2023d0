use Rattle.std.proofs.Common.{◌≡◌, ◌<◌, ◌≤◌, ◌-◌, ◌++◌, drop, length}
use Rattle.sat_text.specs.Dimacs.{clause_lines}
use Rattle.sat_text.proofs.dimacs.push_clauses.Given as goal

abbrev pub invariant-loop-next : goal.invariant-loop-next
invariant-loop-next l = record {
  within : l.next ≤ length l.formula.clauses;
  before : l.from ≤ l.next;
  some : l.from < l.next → 0 < length l.text.items;
  lines : l.initial.text.items ++ clause_lines (drop l.from l.formula.clauses) ≡ l.text.items ++ clause_lines (drop l.next l.formula.clauses);
}

abbrev pub decreases-loop-next : goal.decreases-loop-next
decreases-loop-next l = l.count - l.next
