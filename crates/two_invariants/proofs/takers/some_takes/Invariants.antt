use Rattle.std.proofs.Common.{◌≡◌, ◌==◌, ℕ, true, false, take}
use Rattle.std.specs.List.{list_any}
use Rattle.bit_sets.specs.Rows.{row_has}
use Rattle.two_invariants.specs.own.Index.{IsNumbered, takes_in}
use Rattle.two_invariants.specs.declared.groups.Group.{Group}
use Rattle.two_invariants.proofs.takers.some_takes.Given as goal

abbrev pub invariant-loop-number : goal.invariant-loop-number
invariant-loop-number l =
    (n : ℕ) (g : Group) → list_any (λ k. k == n) (take l.number-index l.numbers) ≡ true → IsNumbered l.here.before.now.groups.now n g → takes_in l.here.before.now.facts l.here.before.now.rows.now l.here.before.now.groups.now (row_has l.here.set.now) g l.l ≡ false
