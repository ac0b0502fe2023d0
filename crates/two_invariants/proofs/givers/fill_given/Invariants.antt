use Rattle.std.proofs.Common.{◌≡◌, ◌<◌, ◌-◌, ℕ, true}
use Rattle.std.specs.List.{list_all}
use Rattle.bit_sets.specs.Rows.{row_has}
use Rattle.implied_literals.specs.Rows.{IsPart}
use Rattle.two_invariants.specs.own.Groups.{group_with}
use Rattle.two_invariants.specs.own.Numbers.{finds}
use Rattle.two_invariants.specs.own.Index.{IsNumbered, gives_in}
use Rattle.two_invariants.specs.declared.groups.Group.{Group}
use Rattle.two_invariants.proofs.givers.fill_given.Given as goal

abbrev pub invariant-loop-lit : goal.invariant-loop-lit
invariant-loop-lit l = record {
  more : IsPart (row_has l.givers.base) (row_has l.given);
  sound : (m : ℕ) → row_has l.given m ≡ true → group_with l.groups m (list_all (row_has l.set)) ≡ true;
  done : (k n m : ℕ) (g : Group) → k < l.from → row_has l.set k ≡ true → finds l.givers.by k n ≡ true → IsNumbered l.groups n g → gives_in (row_has l.set) g m ≡ true → row_has l.given m ≡ true;
}

abbrev pub decreases-loop-lit : goal.decreases-loop-lit
decreases-loop-lit l = 4096 - l.from
