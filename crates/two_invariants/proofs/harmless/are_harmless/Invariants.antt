use Rattle.std.proofs.Common.{◌≡◌, true, false, ℕ, drop}
use Rattle.bit_sets.specs.Rows.{row_has}
use Rattle.implied_literals.specs.Rows.{clause_in}
use Rattle.two_invariants.specs.own.Plain.{has_opposite}
use Rattle.two_invariants.proofs.harmless.are_harmless.Given as goal

abbrev pub invariant-loop-effect : goal.invariant-loop-effect
invariant-loop-effect l = record {
  there : l.room.there ≡ l.initial.room.there;
  kept : (k m : ℕ) → clause_in l.clauses k m ≡ true → clause_in l.lost k m ≡ false → has_opposite l.effects k ≡ true
      → (has_opposite (drop l.effect-index l.effects) k ≡ true → row_has l.initial.room.there m ≡ true) → row_has l.initial.room.there m ≡ true;
}
