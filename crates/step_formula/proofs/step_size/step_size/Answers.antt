use Rattle.std.proofs.Common.{arith, refl}
use Rattle.formula_defs.specs.Variables.{layout_of}
use Rattle.step_formula.proofs.StepSize.{step_literals}
use Rattle.step_formula.proofs.step_size.step_size.Goals as goal

pub returns-clause-size : goal.returns-clause-size
returns-clause-size c places are =
    let task = c.args.task.now in
    let h = step_literals task places c.size.result c.facts.ensures.lawful (c.size.ensures.of_task task places (layout_of task places 1) are refl) in
    let f = c.facts.ensures.facts in
    let n = c.from.ensures in
    let a = c.effect_count.ensures.count in
    let p = c.preconditions_size.ensures.size in
    let e = c.all_effects_size.ensures.size in
    omega (arith, h, f, n, a, p, e)
