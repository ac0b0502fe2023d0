use Rattle.std.proofs.Common.{arith, ◌∙◌, sym, subst}
use Rattle.gt_core.specs.Task.{Action, action}
use Rattle.never_defs.specs.Weights.{PassesWeights}
use Rattle.never_check.specs.Trail.{Reached}
use Rattle.never_check.specs.WeightsVerdicts.{IsWeighing}
use Rattle.never_check.proofs.Grown.{when_true, when_false}
use Rattle.never_check.proofs.Turns.{act_within, act_fits, acts_next, acts_all}
use Rattle.never_check.proofs.weights.first_raising.Goals as goal

pub passes-requires-clause-fits : goal.passes-requires-clause-fits
passes-requires-clause-fits c =
    act_fits c.args.task.now c.acts.result.now c.acts.ensures.acts c.loop-number.number (let t = c.loop-number-test.true in omega (arith, t)) c.requires.lawful _ c.act.result.now c.requires.facts c.act.ensures.act

pub passes-requires-clause-weighing : goal.passes-requires-clause-weighing
passes-requires-clause-weighing c = subst (λ (r : Reached). IsWeighing c.args.rules.now c.args.weights.now r) (sym c.loop-number.invariant.kept) c.requires.weighing

pub returns-then-not-branch : goal.returns-then-not-branch
returns-then-not-branch c =
    let known = c.args.rules.now.known.now.clauses in
    let lt = act_within c.args.task.now c.acts.result.now c.acts.ensures.acts c.loop-number.number (let t = c.loop-number-test.true in omega (arith, t)) in
    (lt, λ passes. when_false c.in_ok-passes.field-0 _ c.if-not-branch.true c.in_ok-passes.ensures.told (subst (λ (x : Action). PassesWeights known c.args.weights.now x) (sym c.act.ensures.act) passes))

pub loop-number-preserved : goal.loop-number-preserved
loop-number-preserved c =
    let known = c.args.rules.now.known.now.clauses in
    let weights = c.args.weights.now in
    record {
      kept = c.in_ok-passes.ensures.kept ∙ c.loop-number.invariant.kept;
      all =
          acts_next c.args.task.now c.acts.result.now c.acts.ensures.acts c.loop-number.number (λ a. PassesWeights known weights (action c.args.task.now a)) c.loop-number.invariant.all
          (subst (λ (x : Action). PassesWeights known weights x) c.act.ensures.act (when_true c.in_ok-passes.field-0 _ c.if-not-branch.false c.in_ok-passes.ensures.told));
    }

pub returns : goal.returns
returns c =
    acts_all c.args.task.now c.acts.result.now c.acts.ensures.acts c.loop-number.number (λ a. PassesWeights c.args.rules.now.known.now.clauses c.args.weights.now (action c.args.task.now a)) c.loop-number.invariant.all
    (λ lt. let ends = c.loop-number-test.false in omega (arith, ends, lt))
