use Rattle.std.proofs.Common.{◌≡◌, ◌&&◌, ◌||◌, not, ℕ, drop, length}
use Rattle.bit_sets.specs.Rows.{row_has}
use Rattle.implied_literals.specs.Rows.{clause_in}
use Rattle.two_invariants.specs.own.Plain.{takes_plainly}
use Rattle.two_invariants.proofs.plain.add_plain_losses.Given as goal

abbrev pub invariant-loop-effect : goal.invariant-loop-effect
invariant-loop-effect l = record {
  long : length l.lost.items ≡ length l.initial.lost.items;
  lost : (a m : ℕ) → (clause_in l.lost.items a m || (clause_in l.clauses a m && (takes_plainly (row_has l.gives) (drop l.effect-index l.effects) a && not (row_has l.set m))))
      ≡ (clause_in l.initial.lost.items a m || (clause_in l.clauses a m && (takes_plainly (row_has l.gives) l.effects a && not (row_has l.set m))));
}
