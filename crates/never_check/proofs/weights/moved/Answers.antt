use Rattle.std.proofs.Common.{arith}
use Rattle.gt_core.specs.Literal.{is_in}
use Rattle.never_defs.specs.After.{comes_perhaps, goes_surely}
use Rattle.never_check.proofs.Weighing.{next_fits}
use Rattle.never_check.proofs.weights.moved.Goals as goal

pub overflow_add-coming : goal.overflow_add-coming
overflow_add-coming c =
    let fits = next_fits (comes_perhaps (is_in c.args.trail.now.literals) c.args.act.now) c.args.weights.now c.loop-weight.weight-index (0, 0) c.loop-weight-test.true c.requires.weights.total c.loop-weight.coming c.loop-weight.invariant.coming c.comes_perhaps.result c.comes_perhaps.ensures c.counted-coming.result c.counted-coming.ensures in
    omega (arith, fits)

pub overflow_add-going : goal.overflow_add-going
overflow_add-going c =
    let fits = next_fits (goes_surely (is_in c.args.trail.now.literals) c.args.act.now) c.args.weights.now c.loop-weight.weight-index (0, 0) c.loop-weight-test.true c.requires.weights.total c.loop-weight.going c.loop-weight.invariant.going c.goes_surely.result c.goes_surely.ensures c.counted-going.result c.counted-going.ensures in
    omega (arith, fits)
