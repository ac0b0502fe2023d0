use Rattle.std.proofs.Common.{◌≡◌, ◌<◌, ◌-◌, ℕ, true, length}
use Rattle.bit_sets.specs.Rows.{row_has}
use Rattle.two_invariants.specs.own.Numbers.{finds, FindsMore}
use Rattle.two_invariants.proofs.by_literal.add_to_all.Given as goal

abbrev pub invariant-loop-literal : goal.invariant-loop-literal
invariant-loop-literal l = record {
  long : length l.by.lists.items ≡ length l.initial.by.lists.items;
  more : FindsMore l.initial.by l.by;
  own : (k : ℕ) → k < l.from → row_has l.literals k ≡ true → finds l.by k l.number ≡ true;
}

abbrev pub decreases-loop-literal : goal.decreases-loop-literal
decreases-loop-literal l = 4096 - l.from
