use Rattle.std.proofs.Common.{◌≡◌, ℕ, ◌≤◌, ◌<◌, true}
use Rattle.std.specs.Prelude.{slice_index}
use Rattle.gt_core.specs.Literal.{is_in}
use Rattle.gt_core.specs.Task.{precondition}
use Rattle.successors.proofs.check.are_needing.Given as goal

-- the actions that were looked at need the literal
abbrev pub invariant-loop-place : goal.invariant-loop-place
invariant-loop-place l = (p : ℕ) → slice_index l.trie.froms l.node ≤ p → p < l.place → is_in (precondition l.task (slice_index l.trie.acts p)) (slice_index l.trie.lits l.node) ≡ true
