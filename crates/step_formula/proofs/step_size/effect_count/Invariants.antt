use Rattle.std.proofs.Common.{◌≡◌, ◌+◌, ◌*◌, ◌≤◌, drop}
use Rattle.gt_core.specs.Lawful.{conditional_in}
use Rattle.step_formula.specs.own.Sizes.{effects_in}
use Rattle.step_formula.proofs.step_size.effect_count.Given as goal

abbrev pub invariant-loop-act : goal.invariant-loop-act
invariant-loop-act l =
    (effects_in l.task.actions ≡ l.count + effects_in (drop l.act-index l.task.actions))
    × (l.count + conditional_in (drop l.act-index l.task.actions) ≤ 4096 * l.act-index + conditional_in l.task.actions)
