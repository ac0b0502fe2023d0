use Rattle.std.proofs.Common.{◌<◌, ◌==◌, ◌≡◌, ◌||◌, subst, true, ℕ, List, length, ◌*◌, sym}
use Rattle.std.specs.List.{list_any, AllByRecursion}
use Rattle.bit_sets.specs.Rows.{row_has}
use Rattle.gt_core.specs.Task.{Action}
use Rattle.implied_literals.specs.Tested.{act_at, IsSetOf}
use Rattle.implied_literals.specs.Renewed.{is_unmoved}
use Rattle.implied_literals.proofs.published.Unmoved.{tested_again}
use Rattle.implied_literals.proofs.again.prepare.Goals as goal

pub returns-clause-tested : goal.returns-clause-tested
returns-clause-tested c =
    let task = c.args.task.now in
    let todo = c.in_ok-todo.todo.items in
    let moved = c.in_ok-moved.moved in
    tested_again task (row_has c.args.asked.now) c.args.known.now c.renew_known.new.known moved c.args.clauses.now todo c.requires.among c.in_ok-moved.ensures.moved c.requires.settled
    (subst (λ (xs : List Action). AllByRecursion (λ a. a < length xs) todo) c.acts.ensures.acts c.in_ok-todo.ensures.numbers)
    (subst (λ (xs : List Action). (a : ℕ) → a < length xs → (list_any (λ b. b == a) todo || is_unmoved moved (act_at xs a)) ≡ true) c.acts.ensures.acts c.in_ok-todo.ensures.left)

pub renew_known-requires-clause-asked : goal.renew_known-requires-clause-asked
renew_known-requires-clause-asked c = subst (λ (n : ℕ). IsSetOf (2 * n) (row_has c.args.asked.now)) (sym c.facts.ensures.facts) c.requires.asked
