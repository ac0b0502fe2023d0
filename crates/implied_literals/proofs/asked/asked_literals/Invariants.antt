use Rattle.std.proofs.Common.{◌≡◌, ◌||◌, ℕ, drop}
use Rattle.std.specs.List.{list_any}
use Rattle.bit_sets.specs.Rows.{row_has}
use Rattle.implied_literals.specs.Renewed.{asks}
use Rattle.implied_literals.proofs.asked.asked_literals.Given as goal

abbrev pub invariant-loop-act : goal.invariant-loop-act
invariant-loop-act l = (k : ℕ) → (row_has l.row k || list_any (λ x. asks x k) (drop l.act-index l.acts)) ≡ list_any (λ x. asks x k) l.acts
