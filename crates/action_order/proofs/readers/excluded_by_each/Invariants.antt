use Rattle.std.proofs.Common.{◌≡◌, ℕ}
use Rattle.bit_sets.specs.Rows.{row_has}
use Rattle.action_order.specs.own.Readers.{is_excluded}
use Rattle.action_order.proofs.readers.excluded_by_each.Given as goal

abbrev pub invariant-loop-q : goal.invariant-loop-q
invariant-loop-q l = (b : ℕ) → row_has l.row b ≡ is_excluded l.pairs.clauses l.needing l.p l.q b
