use Rattle.std.proofs.Common.{◌≡◌, ℕ, ◌<◌, true, slice_index}
use Rattle.bit_sets.specs.Layered.{words_have}
use Rattle.propagation.specs.own.Asks.{HasAsks}
use Rattle.propagation.specs.own.Tables.{pending_in}
use Rattle.propagation.proofs.known.scan_listed.Given as goal

abbrev pub invariant-loop-number : goal.invariant-loop-number
invariant-loop-number l = record {
  asks : HasAsks l.tables.store.clauses l.assignment.trail l.pending;
  own : (p : ℕ) → p < l.number-index → pending_in l.tables l.assignment.trail (slice_index l.listed p) ≡ true
      → words_have l.pending.numbers (slice_index l.listed p) ≡ true;
}
