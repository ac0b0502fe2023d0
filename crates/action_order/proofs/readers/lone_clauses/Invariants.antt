use Rattle.std.proofs.Common.{◌≡◌, ◌&&◌, ℕ}
use Rattle.std.specs.Prelude.{nat_lt}
use Rattle.bit_sets.specs.Rows.{row_has}
use Rattle.gt_core.specs.Interference.{has_clause}
use Rattle.action_order.proofs.readers.lone_clauses.Given as goal

abbrev pub invariant-loop-m : goal.invariant-loop-m
invariant-loop-m l = (k : ℕ) → row_has l.row k ≡ (nat_lt k l.m && has_clause l.pairs.clauses k k)
