use Rattle.std.proofs.Common.{◌≡◌, ℕ, length}
use Rattle.cdcl_defs.specs.State.{clause_at}
use Rattle.propagation.specs.own.Given.{AreRising, IsBeside}
use Rattle.propagation.specs.own.Visit.{AreSlotsBelow}
use Rattle.propagation.proofs.given.others_of.Given as goal

abbrev pub invariant-loop-number : goal.invariant-loop-number
invariant-loop-number l = record {
  below : AreSlotsBelow l.number l.places.items;
  rising : AreRising l.places.items;
  twos : (j : ℕ) → IsBeside l.places.items l.number j → length (clause_at l.list j) ≡ 2;
}
