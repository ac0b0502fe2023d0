use Rattle.std.proofs.Common.{◌≡◌, ◌≤◌, ℕ, length}
use Rattle.bit_sets.specs.Layered.{words_have}
use Rattle.propagation.proofs.pending.make_room.Given as goal

abbrev pub invariant-loop-word : goal.invariant-loop-word
invariant-loop-word l = record {
  room : l.word ≤ length l.numbers;
  same : (k : ℕ) → words_have l.numbers k ≡ words_have l.initial.numbers k;
}
