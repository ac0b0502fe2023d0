use Rattle.std.proofs.Common.{◌+◌, ◌<◌, ◌≤◌, ℕ, length, get_or}
use Rattle.propagation.specs.own.Given.{AreGiven}
use Rattle.propagation.proofs.given.Given.enter_part.Given as goal

abbrev pub invariant-loop-index : goal.invariant-loop-index
invariant-loop-index l = record {
  within : l.next ≤ l.others.count;
  past : (i : ℕ) → i < l.index → get_or l.others.places.items i 0 < l.next;
  ahead : (i : ℕ) → l.index ≤ i → i < length l.others.places.items → l.next ≤ get_or l.others.places.items i 0;
  given : AreGiven l.codes l.store.clauses (l.first + l.next) l.self;
}
