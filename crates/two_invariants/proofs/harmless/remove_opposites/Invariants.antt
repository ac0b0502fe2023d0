use Rattle.std.proofs.Common.{◌≡◌, ◌&&◌, not, ℕ, drop}
use Rattle.bit_sets.specs.Rows.{row_has}
use Rattle.two_invariants.specs.own.Plain.{has_opposite}
use Rattle.two_invariants.proofs.harmless.remove_opposites.Given as goal

abbrev pub invariant-loop-effect : goal.invariant-loop-effect
invariant-loop-effect l = (m : ℕ) → (row_has l.set m && not (has_opposite (drop l.effect-index l.effects) m)) ≡ (row_has l.initial.set m && not (has_opposite l.effects m))
