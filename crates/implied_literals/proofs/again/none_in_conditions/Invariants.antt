use Rattle.std.proofs.Common.{◌≡◌, not, drop}
use Rattle.std.specs.List.{list_all}
use Rattle.bit_sets.specs.Rows.{row_has}
use Rattle.implied_literals.proofs.again.none_in_conditions.Given as goal

abbrev pub invariant-loop-effect : goal.invariant-loop-effect
invariant-loop-effect l = list_all (λ e. list_all (λ k. not (row_has l.set k)) e.condition) (drop l.effect-index l.effects) ≡ list_all (λ e. list_all (λ k. not (row_has l.set k)) e.condition) l.effects
