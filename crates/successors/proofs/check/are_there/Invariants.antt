use Rattle.std.proofs.Common.{ℕ, ◌<◌}
use Rattle.successors.specs.Trie.{IsBefore}
use Rattle.successors.proofs.check.are_there.Given as goal

-- those that were looked at stand at their places
abbrev pub invariant-loop-act : goal.invariant-loop-act
invariant-loop-act l = (a : ℕ) → a < l.act → IsBefore l.trie.acts l.bound a
