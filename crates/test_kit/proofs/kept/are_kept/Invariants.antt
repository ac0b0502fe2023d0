use Rattle.std.proofs.Common.{◌≡◌, ◌<◌, ℕ, slice_get, Some, true}
use Rattle.test_kit.specs.own.Kept.{is_kept}
use Rattle.test_kit.proofs.kept.are_kept.Given as goal

abbrev pub invariant-loop-i : goal.invariant-loop-i
invariant-loop-i l = (k : ℕ) → k < l.i → (p : ℕ × ℕ) → slice_get l.pairs.clauses k ≡ Some p → is_kept l.task p ≡ true
