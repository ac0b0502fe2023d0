use Rattle.std.proofs.Common.{◌≡◌, ◌+◌, ◌*◌}
use Rattle.propagation.specs.own.Given.{AreGiven}
use Rattle.propagation.proofs.given.Given.enter_parts.Given as goal

abbrev pub invariant-loop : goal.invariant-loop
invariant-loop l = record {
  next : l.next ≡ l.first + l.counter * l.others.count;
  given : AreGiven l.codes l.store.clauses l.next l.self;
}
