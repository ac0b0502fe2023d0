use Rattle.std.proofs.Common.{◌<◌, length}
use Rattle.two_invariants.proofs.by_literal.no_lists.Given as goal

abbrev pub invariant-loop : goal.invariant-loop
invariant-loop l = 0 < length l.lists.items
