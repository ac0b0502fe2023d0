use Rattle.std.proofs.Common.{◌≡◌, ℕ, ◌||◌, drop, length}
use Rattle.bit_sets.specs.Rows.{row_has}
use Rattle.gt_core.specs.Literal.{is_in}
use Rattle.successors.proofs.next.set_all.Given as goal

-- what the facts that are left make of the row is what all make of the first one
abbrev pub invariant-loop-fact : goal.invariant-loop-fact
invariant-loop-fact l = record {
  has : (f : ℕ) → (is_in l.facts f || row_has l.initial.into.items f) ≡ (is_in (drop l.fact-index l.facts) f || row_has l.into.items f);
  long : length l.into.items ≡ length l.initial.into.items;
}
