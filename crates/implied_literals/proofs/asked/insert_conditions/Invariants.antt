use Rattle.std.proofs.Common.{◌≡◌, ◌==◌, ◌||◌, ℕ, drop}
use Rattle.std.specs.List.{list_any}
use Rattle.bit_sets.specs.Rows.{row_has}
use Rattle.implied_literals.proofs.asked.insert_conditions.Given as goal

abbrev pub invariant-loop-effect : goal.invariant-loop-effect
invariant-loop-effect l = (k : ℕ) → (row_has l.row k || list_any (λ e. list_any (λ x. x == k) e.condition) (drop l.effect-index l.effects)) ≡ (row_has l.initial.row k || list_any (λ e. list_any (λ x. x == k) e.condition) l.effects)
