use Rattle.std.proofs.Common.{ℕ, ◌<◌}
use Rattle.successors.specs.Trie.{IsNode}
use Rattle.successors.proofs.check.are_nodes.Given as goal

-- those that were looked at are nodes
abbrev pub invariant-loop-node : goal.invariant-loop-node
invariant-loop-node l = (i : ℕ) → i < l.node → IsNode l.task l.trie i
