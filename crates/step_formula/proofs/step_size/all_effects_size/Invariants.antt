use Rattle.std.proofs.Common.{◌≡◌, ◌+◌, ◌*◌, ◌≤◌, drop}
use Rattle.std.specs.Prelude.{sum_by}
use Rattle.step_formula.specs.own.Sizes.{effects_size, effects_in}
use Rattle.step_formula.proofs.step_size.all_effects_size.Given as goal

abbrev pub invariant-loop-act : goal.invariant-loop-act
invariant-loop-act l =
    (sum_by (λ x. effects_size x.effects) l.task.actions ≡ l.size + sum_by (λ x. effects_size x.effects) (drop l.act-index l.task.actions))
    × (l.size + 131072 * effects_in (drop l.act-index l.task.actions) ≤ 131072 * effects_in l.task.actions)
