use Rattle.std.proofs.Common.{◌≡◌, ℕ, ◌<◌, length}
use Rattle.std.specs.Prelude.{slice_index}
use Rattle.successors.proofs.trie.numbers.Given as goal

-- each number so far stands at its place
abbrev pub invariant-loop-act : goal.invariant-loop-act
invariant-loop-act l = record { long : length l.acts.items ≡ l.act; each : (p : ℕ) → p < l.act → slice_index l.acts.items p ≡ p }
