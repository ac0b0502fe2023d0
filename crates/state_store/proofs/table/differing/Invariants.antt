use Rattle.std.proofs.Common.{◌≡◌, ◌<◌, ℕ, get_or}
use Rattle.state_store.proofs.table.differing.Given as goal

-- the words that were looked at are equal
abbrev pub invariant-loop-place : goal.invariant-loop-place
invariant-loop-place l = (k : ℕ) → k < l.place → get_or l.row k 0 ≡ get_or l.other k 0
