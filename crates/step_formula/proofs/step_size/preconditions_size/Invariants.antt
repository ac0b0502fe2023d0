use Rattle.std.proofs.Common.{◌≡◌, ◌+◌, ◌*◌, ◌≤◌, drop}
use Rattle.step_formula.specs.own.Sizes.{preconditions_size}
use Rattle.step_formula.proofs.step_size.preconditions_size.Given as goal

abbrev pub invariant-loop-act : goal.invariant-loop-act
invariant-loop-act l =
    (preconditions_size l.task.actions ≡ l.size + preconditions_size (drop l.act-index l.task.actions))
    × (l.size ≤ 8192 * l.act-index)
