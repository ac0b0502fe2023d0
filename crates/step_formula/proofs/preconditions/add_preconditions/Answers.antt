use Rattle.std.proofs.Common.{arith, ◌<◌, length, ap, ◌∙◌, []}
use Rattle.formula_defs.specs.Layout.{Layout, action_at, fact_at}
use Rattle.gt_core.specs.Task.{Action, precondition}
use Rattle.gt_core.proofs.published.Within.{precondition_within}
use Rattle.step_formula.proofs.Groups.{precondition_step, within_by}
use Rattle.step_formula.proofs.preconditions.add_preconditions.Goals as goal

pub loop-a-preserved : goal.loop-a-preserved
loop-a-preserved c =
    let e = ap (λ (z : Layout). z.actions) c.layout.view_is in
    let task = c.args.task.now in
    let a = c.loop-a.a in
    let lt : a < length task.actions = let r = c.requires.actions in let t = c.loop-a-test.true in omega (arith, e, r, t) in
    precondition_step (action_at c.args.layout.now 0) (fact_at c.args.layout.now 0) task.actions a (record { precondition = []; effects = [] }) c.pre.result.now _ c.loop-a.clauses c.add_precondition.new.clauses lt (c.pre.ensures ∙ ap (λ (x : Action). x.precondition) c.act.ensures.act) c.loop-a.invariant c.in_ok-add_precondition.ensures

pub add_precondition-requires-clause-within : goal.add_precondition-requires-clause-within
add_precondition-requires-clause-within c =
    let e = ap (λ (z : Layout). z.actions) c.layout.view_is in
    let task = c.args.task.now in
    let a = c.loop-a.a in
    let lt : a < length task.actions = let r = c.requires.actions in let t = c.loop-a-test.true in omega (arith, e, r, t) in
    within_by c.args.layout.now.facts task.facts c.pre.result.now (precondition task a) c.requires.facts (c.pre.ensures ∙ ap (λ (x : Action). x.precondition) c.act.ensures.act) (precondition_within task a c.act.ensures.lawful lt)
