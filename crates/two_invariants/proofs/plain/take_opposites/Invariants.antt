use Rattle.std.proofs.Common.{◌≡◌, ◌&&◌, not, ℕ, drop}
use Rattle.bit_sets.specs.Rows.{row_has}
use Rattle.two_invariants.specs.own.Plain.{takes_plainly}
use Rattle.two_invariants.proofs.plain.take_opposites.Given as goal

abbrev pub invariant-loop-effect : goal.invariant-loop-effect
invariant-loop-effect l = (m : ℕ) → (row_has l.sure m && not (takes_plainly (row_has l.given) (drop l.effect-index l.effects) m)) ≡ (row_has l.initial.sure m && not (takes_plainly (row_has l.given) l.effects m))
