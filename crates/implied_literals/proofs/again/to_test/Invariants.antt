use Rattle.std.proofs.Common.{◌≡◌, ◌==◌, ◌||◌, ◌<◌, ℕ, true, length}
use Rattle.std.specs.List.{list_any, AllByRecursion}
use Rattle.implied_literals.specs.Tested.{act_at}
use Rattle.implied_literals.specs.Renewed.{is_unmoved}
use Rattle.implied_literals.proofs.again.to_test.Given as goal

abbrev pub invariant-loop-a : goal.invariant-loop-a
invariant-loop-a l = record {
  numbers : AllByRecursion (λ a. a < length l.acts) l.todo.items;
  left : (k : ℕ) → k < l.a → (list_any (λ b. b == k) l.todo.items || is_unmoved l.moved (act_at l.acts k)) ≡ true;
}
