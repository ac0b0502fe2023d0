use Rattle.std.proofs.Common.{◌≡◌, ℕ, ◌*◌, ◌≤◌, false}
use Rattle.clause_base.specs.Clause.{has_literal}
use Rattle.layer_tests.proofs.tests.watches.chain_asks.Given as goal

abbrev pub invariant-loop-j : goal.invariant-loop-j
invariant-loop-j g l = record { many : l.watches.variables ≡ 500000; free : (k : ℕ) → 2 * l.j ≤ k → has_literal l.watches.trail k ≡ false }
