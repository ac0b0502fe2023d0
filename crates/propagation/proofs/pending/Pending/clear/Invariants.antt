use Rattle.std.proofs.Common.{◌≡◌, ℕ, ◌<◌, ◌≤◌, ◌-◌, length, false}
use Rattle.bit_sets.specs.Layered.{words_have}
use Rattle.propagation.proofs.pending.Pending.clear.Given as goal

abbrev pub invariant-clearing : goal.invariant-clearing
invariant-clearing l = record {
  room : length l.self.numbers ≡ length l.initial.self.numbers;
  asks : l.self.asks.items ≡ l.initial.self.asks.items;
  none : (k : ℕ) → k < l.low → words_have l.self.numbers k ≡ false;
  low : l.low ≤ 4294967296;
}

abbrev pub decreases-clearing : goal.decreases-clearing
decreases-clearing l = 4294967296 - l.low
