use Rattle.std.proofs.Common.{◌≤◌, ◌<◌, ◌-◌, ℕ, length, get_or}
use Rattle.cdcl_tables.proofs.trail.count_below.Given as goal

-- what lies before `low` is below the bound, and what lies from `high` on is not
abbrev pub invariant-loop-low : goal.invariant-loop-low
invariant-loop-low l = record {
  order : l.low ≤ l.high;
  within : l.high ≤ length l.numbers;
  less : (i : ℕ) → i < l.low → get_or l.numbers i 0 < l.bound;
  rest : (i : ℕ) → l.high ≤ i → i < length l.numbers → l.bound ≤ get_or l.numbers i 0;
}

abbrev pub decreases-loop-low : goal.decreases-loop-low
decreases-loop-low l = l.high - l.low
