use Rattle.std.proofs.Common.{◌≡◌, ◌<◌, ◌-◌, ℕ, true, length}
use Rattle.bit_sets.specs.Rows.{row_has}
use Rattle.implied_literals.specs.Rows.{clause_in}
use Rattle.implied_literals.proofs.renew.add_partners.Given as goal

abbrev pub invariant-loop-y : goal.invariant-loop-y
invariant-loop-y l = (y m : ℕ) → y < l.from → row_has l.lits y ≡ true → clause_in l.rules.clauses.now y m ≡ true → row_has l.partners m ≡ true

abbrev pub decreases-loop-y : goal.decreases-loop-y
decreases-loop-y l = length l.rules.clauses.now - l.from
