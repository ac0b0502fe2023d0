use Rattle.std.proofs.Common.{◌≡◌, ◌-◌, ◌<◌, ◌≤◌, ℕ, [], length, get_or}
use Rattle.step_chains.specs.own.Index.{AreTouched}
use Rattle.step_chains.proofs.index.clear_touched.Given as goal

abbrev pub invariant-loop-lit : goal.invariant-loop-lit
invariant-loop-lit l = record {
  long : length l.lists.items ≡ length l.initial.lists.items;
  touched : AreTouched l.touched l.lists.items;
  below : (k : ℕ) → k < l.lit → get_or l.lists.items k [] ≡ [];
  within : l.lit ≤ l.count;
}

abbrev pub decreases-loop-lit : goal.decreases-loop-lit
decreases-loop-lit l = l.count - l.lit
