use Rattle.std.proofs.Common.{◌≡◌, ◌<◌, ℕ, ◌||◌, drop, length, get_or, false}
use Rattle.cdcl_defs.specs.Reduce.{has_forced}
use Rattle.cdcl_core.proofs.reduce.forced_flags.Given as goal

abbrev pub invariant-loop-entry : goal.invariant-loop-entry
invariant-loop-entry l = record {
  size : length l.flags.items ≡ l.count;
  rest : (n : ℕ) → n < l.count → has_forced l.entries n ≡ (get_or l.flags.items n false || has_forced (drop l.entry-index l.entries) n);
}
