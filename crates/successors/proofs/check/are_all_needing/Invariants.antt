use Rattle.std.proofs.Common.{ℕ, ◌<◌}
use Rattle.successors.specs.Trie.{AreNeeding}
use Rattle.successors.proofs.check.are_all_needing.Given as goal

-- the actions below those that were looked at need their literals
abbrev pub invariant-loop-node : goal.invariant-loop-node
invariant-loop-node l = (i : ℕ) → i < l.node → AreNeeding l.task l.trie i
