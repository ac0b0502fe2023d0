use Rattle.std.proofs.Common.{ℕ, ◌<◌, length}
use Rattle.std.specs.Prelude.{slice_index}
use Rattle.successors.proofs.check.are_actions.Given as goal

-- those that were looked at are numbers of actions
abbrev pub invariant-loop-place : goal.invariant-loop-place
invariant-loop-place l = (p : ℕ) → p < l.place → slice_index l.trie.acts p < length l.task.actions
