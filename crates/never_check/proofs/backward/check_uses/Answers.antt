use Rattle.std.proofs.Common.{◌*◌}
use Rattle.never_check.specs.BackwardVerdicts.{IsStepRefuted}
use Rattle.never_check.proofs.Grown.{when_false}
use Rattle.never_check.proofs.Turns.{number_fails, numbers_all}
use Rattle.never_check.proofs.backward.check_uses.Goals as goal

pub returns-then-not-branch-clause-told : goal.returns-then-not-branch-clause-told
returns-then-not-branch-clause-told c =
    let whole = c.args.step.now.sides.now.whole.now in
    number_fails (2 * whole.known.now.facts) whole.clauses.now whole.uses.now c.requires.assumed.step.sides.whole.uses c.args.lit c.requires.lit c.as_slice-number-items.result.now _ c.as_slice-number-items.ensures
    (IsStepRefuted whole c.args.step.now.act.now) c.loop-number.number-index c.loop-number-test.true (when_false c.in_ok-refute_step.field-0 _ c.if-not-branch.true c.in_ok-refute_step.ensures.told)

pub returns-clause-told : goal.returns-clause-told
returns-clause-told c =
    let whole = c.args.step.now.sides.now.whole.now in
    numbers_all (2 * whole.known.now.facts) whole.clauses.now whole.uses.now c.requires.assumed.step.sides.whole.uses c.args.lit c.requires.lit c.as_slice-number-items.result.now _ c.as_slice-number-items.ensures
    (IsStepRefuted whole c.args.step.now.act.now) c.loop-number.number-index c.loop-number-test.false c.loop-number.invariant.all
