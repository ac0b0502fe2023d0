use Rattle.std.proofs.Common.{arith, ◌∙◌, sym, subst}
use Rattle.gt_core.specs.Task.{Action, action}
use Rattle.never_check.specs.Trail.{Reached}
use Rattle.never_check.specs.Verdicts.{IsBase}
use Rattle.never_check.specs.BackwardVerdicts.{ArePassedBackward, FailsBackward}
use Rattle.never_check.proofs.Grown.{none_at, some_at}
use Rattle.never_check.proofs.Turns.{act_within, act_fits, acts_next, acts_all}
use Rattle.never_check.proofs.backward.check_actions.Goals as goal

pub check_action-requires : goal.check_action-requires
check_action-requires c =
    let fits = act_fits c.args.task.now c.acts.result.now c.acts.ensures.acts c.loop-number.number (let t = c.loop-number-test.true in omega (arith, t)) c.requires.lawful _ c.act-act.result.now c.requires.facts c.act-act.ensures.act in
    record {
      step = record { sides = c.requires.sides; fits = fits };
      plain = subst (λ (r : Reached). IsBase c.args.sides.now.plain.now r) (sym c.loop-number.invariant.before) c.requires.plain;
      base = subst (λ (r : Reached). IsBase c.args.sides.now.whole.now r) (sym c.loop-number.invariant.after) c.requires.base;
    }

pub returns-in-Some : goal.returns-in-Some
returns-in-Some c =
    let whole = c.args.sides.now.whole.now in
    let lt = act_within c.args.task.now c.acts.result.now c.acts.ensures.acts c.loop-number.number (let t = c.loop-number-test.true in omega (arith, t)) in
    (lt, subst (λ (x : Action). FailsBackward whole x c.in-Some.clause) c.act-act.ensures.act (some_at _ _ c.in_ok-check_action.field-0 c.in-Some.clause c.in-Some.is c.in_ok-check_action.ensures.told))

pub loop-number-preserved : goal.loop-number-preserved
loop-number-preserved c =
    let whole = c.args.sides.now.whole.now in
    let told = c.in_ok-check_action.ensures in
    record {
      before = told.kept.before ∙ c.loop-number.invariant.before;
      after = told.kept.after ∙ c.loop-number.invariant.after;
      all =
          acts_next c.args.task.now c.acts.result.now c.acts.ensures.acts c.loop-number.number (λ a. ArePassedBackward whole (action c.args.task.now a)) c.loop-number.invariant.all
          (subst (λ (x : Action). ArePassedBackward whole x) c.act-act.ensures.act (none_at _ c.in_ok-check_action.field-0 c.in-None.is told.told));
    }

pub returns : goal.returns
returns c =
    acts_all c.args.task.now c.acts.result.now c.acts.ensures.acts c.loop-number.number (λ a. ArePassedBackward c.args.sides.now.whole.now (action c.args.task.now a)) c.loop-number.invariant.all
    (λ lt. let ends = c.loop-number-test.false in omega (arith, ends, lt))
