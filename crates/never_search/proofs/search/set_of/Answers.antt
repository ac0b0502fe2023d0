use Rattle.std.proofs.Common.{arith}
use Rattle.never_search.proofs.search.set_of.Goals as goal

pub returns-in-Accepted : goal.returns-in-Accepted
returns-in-Accepted c = record {
  passes = rw c.in-Accepted.is at c.in_ok-check_backward.ensures;
  few = omega (arith, c.in_ok-clauses.ensures.few, c.if-layers.false);
  over = rw c.facts.ensures.facts at c.in_ok-clauses.ensures.over;
  as_read = rw c.facts.ensures.facts at c.in_ok-clauses.ensures.as_read;
}
