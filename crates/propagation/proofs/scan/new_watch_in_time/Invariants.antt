use Rattle.std.proofs.Common.{◌≡◌, ℕ, ◌+◌, ◌<◌, ◌≤◌, false, get_or}
use Rattle.clause_base.specs.Clause.{has_literal}
use Rattle.propagation.specs.Pending.{is_free}
use Rattle.propagation.proofs.scan.new_watch_in_time.Given as goal

abbrev pub invariant-loop-place : goal.invariant-loop-place
invariant-loop-place l =
    (l.low ≤ l.place)
    × ((p : ℕ) → l.low ≤ p → p < l.place → (l.up + get_or l.lits p 0 ≡ l.skipped → ⊥) → is_free (has_literal l.assignment.trail) (l.up + get_or l.lits p 0) ≡ false)
