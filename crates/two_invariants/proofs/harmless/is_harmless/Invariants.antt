use Rattle.std.proofs.Common.{◌≡◌, ◌-◌, ◌<◌, true, false, ℕ, length}
use Rattle.bit_sets.specs.Rows.{row_has}
use Rattle.implied_literals.specs.Rows.{clause_in}
use Rattle.two_invariants.proofs.harmless.is_harmless.Given as goal

abbrev pub invariant-loop-l : goal.invariant-loop-l
invariant-loop-l l = record {
  there : l.room.there ≡ l.initial.room.there;
  kept : (k m : ℕ) → k < l.from → row_has l.group.opposites k ≡ true → clause_in l.clauses k m ≡ true → clause_in l.lost k m ≡ false → row_has l.initial.room.there m ≡ true;
}

abbrev pub decreases-loop-l : goal.decreases-loop-l
decreases-loop-l l = length l.clauses - l.from
