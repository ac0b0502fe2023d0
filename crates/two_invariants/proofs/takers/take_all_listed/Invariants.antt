use Rattle.std.proofs.Common.{◌≡◌, ◌<◌, ◌-◌, ◌*◌, ℕ, true, false}
use Rattle.bit_sets.specs.Rows.{row_has}
use Rattle.implied_literals.specs.Rows.{IsPart}
use Rattle.two_invariants.specs.own.Groups.{group_with, may_lose}
use Rattle.two_invariants.specs.own.Numbers.{finds}
use Rattle.two_invariants.specs.own.Index.{IsNumbered, takes_in}
use Rattle.two_invariants.specs.declared.groups.Group.{Group}
use Rattle.two_invariants.proofs.takers.take_all_listed.Given as goal

abbrev pub invariant-loop-l : goal.invariant-loop-l
invariant-loop-l l = record {
  less : IsPart (row_has l.sure) (row_has l.initial.sure);
  lost : (m : ℕ) → row_has l.initial.sure m ≡ true → row_has l.sure m ≡ false → may_lose l.here.before.now.facts l.here.before.now.rows.now (group_with l.here.before.now.groups.now) (row_has l.here.set.now) m ≡ true;
  done : (m n : ℕ) (g : Group) → m < l.from → row_has l.sure m ≡ true → finds l.here.takers.now.by m n ≡ true → IsNumbered l.here.before.now.groups.now n g → takes_in l.here.before.now.facts l.here.before.now.rows.now l.here.before.now.groups.now (row_has l.here.set.now) g m ≡ false;
}

abbrev pub decreases-loop-l : goal.decreases-loop-l
decreases-loop-l l = 2 * l.here.before.now.facts - l.from
