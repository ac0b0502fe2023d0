use Rattle.std.proofs.Common.{◌≡◌, ◌||◌, ℕ, drop}
use Rattle.bit_sets.specs.Rows.{row_has}
use Rattle.two_invariants.specs.own.Plain.{adds_plainly}
use Rattle.two_invariants.proofs.plain.insert_literals.Given as goal

abbrev pub invariant-loop-effect : goal.invariant-loop-effect
invariant-loop-effect l = (k : ℕ) → (row_has l.row k || adds_plainly (drop l.effect-index l.effects) k) ≡ (row_has l.initial.row k || adds_plainly l.effects k)
