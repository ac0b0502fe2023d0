use Rattle.std.proofs.Common.{◌≡◌, ℕ, ◌<◌, ◌≤◌, length, get_or, false}
use Rattle.propagation.proofs.quiet.unquiet.Given as goal

abbrev pub invariant-loop-length : goal.invariant-loop-length
invariant-loop-length l = record {
  size : length l.quiet.items ≡ length l.initial.quiet.items;
  below : (n : ℕ) → n < l.low → get_or l.quiet.items n false ≡ get_or l.initial.quiet.items n false;
  off : (n : ℕ) → l.low ≤ n → n < l.length → get_or l.quiet.items n false ≡ false;
}
