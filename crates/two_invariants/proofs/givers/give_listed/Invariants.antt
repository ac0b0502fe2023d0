use Rattle.std.proofs.Common.{◌≡◌, ◌==◌, ◌⊎◌, ℕ, true, take}
use Rattle.std.specs.List.{list_any, list_all}
use Rattle.bit_sets.specs.Rows.{row_has}
use Rattle.implied_literals.specs.Rows.{IsPart}
use Rattle.two_invariants.specs.own.Groups.{group_with}
use Rattle.two_invariants.specs.own.Index.{IsNumbered, gives_in}
use Rattle.two_invariants.specs.declared.groups.Group.{Group}
use Rattle.two_invariants.proofs.givers.give_listed.Given as goal

abbrev pub invariant-loop-number : goal.invariant-loop-number
invariant-loop-number l = record {
  more : IsPart (row_has l.initial.given) (row_has l.given);
  sound : (m : ℕ) → row_has l.given m ≡ true → (row_has l.initial.given m ≡ true) ⊎ (group_with l.groups m (list_all (row_has l.set)) ≡ true);
  done : (n m : ℕ) (g : Group) → list_any (λ k. k == n) (take l.number-index l.numbers) ≡ true → IsNumbered l.groups n g → gives_in (row_has l.set) g m ≡ true → row_has l.given m ≡ true;
}
