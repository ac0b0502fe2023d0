use Rattle.std.proofs.Common.{arith, ◌∙◌, ap, get_or, List, Bool}
use Rattle.gt_core.specs.Literal.{holds, state_of, is_in}
use Rattle.gt_core.specs.Task.{initial_state}
use Rattle.never_check.proofs.Weighing.{next_fits}
use Rattle.never_check.proofs.weights.compared.Goals as goal

pub overflow_add-first : goal.overflow_add-first
overflow_add-first c =
    let same = c.holds.ensures ∙ ap (λ (values : List Bool). holds (state_of values) (get_or c.args.weights.now c.loop-weight.weight-index (0, 0)).0) c.init.ensures in
    let fits = next_fits (holds (initial_state c.args.task.now)) c.args.weights.now c.loop-weight.weight-index (0, 0) c.loop-weight-test.true c.requires.weights.total c.loop-weight.first c.loop-weight.invariant.first c.holds.result same c.counted-first.result c.counted-first.ensures in
    omega (arith, fits)

pub overflow_add-reached : goal.overflow_add-reached
overflow_add-reached c =
    let fits = next_fits (is_in c.args.trail.now.literals) c.args.weights.now c.loop-weight.weight-index (0, 0) c.loop-weight-test.true c.requires.weights.total c.loop-weight.reached c.loop-weight.invariant.reached c.has.result c.has.ensures c.counted-reached.result c.counted-reached.ensures in
    omega (arith, fits)
