use Rattle.std.proofs.Common.{◌≡◌, ◌==◌, ◌<◌, ℕ, true}
use Rattle.std.specs.List.{list_any, AllByRecursion}
use Rattle.two_invariants.proofs.greatest.all_numbers.Given as goal

abbrev pub invariant-loop-a : goal.invariant-loop-a
invariant-loop-a l = record {
  numbers : AllByRecursion (λ a. a < l.count) l.todo.items;
  all : (k : ℕ) → k < l.a → list_any (λ b. b == k) l.todo.items ≡ true;
}
