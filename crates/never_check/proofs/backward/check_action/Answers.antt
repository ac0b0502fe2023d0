use Rattle.never_check.proofs.Grown.{when_true, when_false}
use Rattle.never_check.proofs.Least.{begun_told}
use Rattle.never_check.proofs.Stepping.{steps_never}
use Rattle.never_check.proofs.backward.check_action.Goals as goal

pub returns-then-branch-clause-told : goal.returns-then-branch-clause-told
returns-then-branch-clause-told c =
    let plain = c.args.step.now.sides.now.plain.now in
    let x = c.args.step.now.act.now in
    let told = begun_told plain x.precondition c.pre.result.now c.in_ok-refutes.field-0 c.args.before.now c.refutes.new.trail c.requires.plain c.in_ok-refutes.ensures.facts c.pre.ensures c.in_ok-refutes.ensures.told in
    steps_never plain c.args.step.now.sides.now.whole.now c.requires.step.sides.known c.requires.step.sides.none x (when_true c.in_ok-refutes.field-0 _ c.if-branch.true told)

pub check_effects-requires : goal.check_effects-requires
check_effects-requires c =
    let plain = c.args.step.now.sides.now.plain.now in
    let x = c.args.step.now.act.now in
    let told = begun_told plain x.precondition c.pre.result.now c.in_ok-refutes.field-0 c.args.before.now c.refutes.new.trail c.requires.plain c.in_ok-refutes.ensures.facts c.pre.ensures c.in_ok-refutes.ensures.told in
    record { step = c.requires.step; least = when_false c.in_ok-refutes.field-0 _ c.if-branch.false told; base = c.requires.base }
