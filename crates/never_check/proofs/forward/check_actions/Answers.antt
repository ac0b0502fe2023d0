use Rattle.std.proofs.Common.{arith, ◌∙◌, sym, subst}
use Rattle.gt_core.specs.Task.{Action, action}
use Rattle.never_check.specs.Trail.{Reached}
use Rattle.never_check.specs.Verdicts.{IsBase, ArePassed, DoesNotPass}
use Rattle.never_check.proofs.Grown.{none_at, some_at}
use Rattle.never_check.proofs.Turns.{act_within, act_fits, acts_next, acts_all}
use Rattle.never_check.proofs.forward.check_actions.Goals as goal

pub check_action-requires : goal.check_action-requires
check_action-requires c =
    let fits = act_fits c.args.task.now c.acts.result.now c.acts.ensures.acts c.loop-number.number (let t = c.loop-number-test.true in omega (arith, t)) c.requires.lawful _ c.act-act.result.now c.requires.facts c.act-act.ensures.act in
    record {
      trial = record { rules = c.requires.rules; fits = fits };
      base = subst (λ (r : Reached). IsBase c.args.rules.now r) (sym c.loop-number.invariant.kept) c.requires.base;
    }

pub returns-in-Some : goal.returns-in-Some
returns-in-Some c =
    let rules = c.args.rules.now in
    let lt = act_within c.args.task.now c.acts.result.now c.acts.ensures.acts c.loop-number.number (let t = c.loop-number-test.true in omega (arith, t)) in
    (lt, subst (λ (x : Action). DoesNotPass rules x c.in-Some.clause) c.act-act.ensures.act (some_at _ _ c.in_ok-check_action.field-0 c.in-Some.clause c.in-Some.is c.in_ok-check_action.ensures.told))

pub loop-number-preserved : goal.loop-number-preserved
loop-number-preserved c =
    let rules = c.args.rules.now in
    record {
      kept = c.in_ok-check_action.ensures.kept ∙ c.loop-number.invariant.kept;
      all =
          acts_next c.args.task.now c.acts.result.now c.acts.ensures.acts c.loop-number.number (λ a. ArePassed rules (action c.args.task.now a)) c.loop-number.invariant.all
          (subst (λ (x : Action). ArePassed rules x) c.act-act.ensures.act (none_at _ c.in_ok-check_action.field-0 c.in-None.is c.in_ok-check_action.ensures.told));
    }

pub returns : goal.returns
returns c =
    acts_all c.args.task.now c.acts.result.now c.acts.ensures.acts c.loop-number.number (λ a. ArePassed c.args.rules.now (action c.args.task.now a)) c.loop-number.invariant.all
    (λ lt. let ends = c.loop-number-test.false in omega (arith, ends, lt))
