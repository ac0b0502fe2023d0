use Rattle.std.proofs.Common.{◌≡◌, ℕ, ◌<◌, true}
use Rattle.bit_sets.specs.Layered.{words_have}
use Rattle.propagation.specs.own.Asks.{HasAsks}
use Rattle.propagation.specs.own.Tables.{pending_in}
use Rattle.propagation.proofs.undo.refresh.Given as goal

abbrev pub invariant-loop-number : goal.invariant-loop-number
invariant-loop-number l = record {
  asks : HasAsks l.tables.store.clauses l.assignment.trail l.pending;
  complete : (k : ℕ) → k < l.number → pending_in l.tables l.assignment.trail k ≡ true → words_have l.pending.numbers k ≡ true;
}
