use Rattle.std.proofs.Common.{arith, ◌≡◌, ℕ, ◌≤◌, ◌+◌, true, None, count_by, subst, sym, List}
use Rattle.gt_core.specs.Task.{Effect}
use Rattle.gt_core.specs.Lawful.{are_effects, is_conditional}
use Rattle.gt_core.proofs.published.Within.{lawful}
use Rattle.step_formula.proofs.WalkLaw.{effects_next, effects_fit, effects_done, own_conditional, action_at_place}
use Rattle.formula_defs.proofs.published.Sorted.{effects_of_action}
use Rattle.step_formula.proofs.step_size.all_effects_size.Goals as goal
use Rattle.gt_core.specs.Limits.{most_conditional}

pub effects_size-size-requires : goal.effects_size-size-requires
effects_size-size-requires c =
    let task = c.args.task.now in
    let facts : c.facts-facts.result ≡ task.facts = c.facts-facts.ensures.facts in
    let own = effects_of_action task.facts c.act-item.result (action_at_place c.args.task.now c.acts-act-items.result.now c.loop-act.act-index c.act-item.result c.act-item.result c.acts-act-items.ensures.lawful c.acts-act-items.ensures.acts c.loop-act-test.true c.act-item.is) in
    record {
      facts = let l = (lawful task c.facts-facts.ensures.lawful).facts in omega (arith, facts, l);
      sorted = subst (λ (n : ℕ). are_effects n None c.effects.result.now ≡ true) (sym facts) (subst (λ (es : List Effect). are_effects task.facts None es ≡ true) (sym c.effects.ensures) own);
      few = subst (λ (es : List Effect). count_by is_conditional es ≤ most_conditional) (sym c.effects.ensures) (own_conditional c.args.task.now c.acts-act-items.ensures.lawful c.acts-act-items.result.now c.loop-act.act-index c.act-item.result c.act-item.result c.acts-act-items.ensures.acts c.loop-act-test.true c.act-item.is);
    }

pub overflow_add-size : goal.overflow_add-size
overflow_add-size c =
    let h : c.loop-act.size + c.effects_size-size.result ≤ 8804682956800 = effects_fit c.args.task.now c.acts-act-items.ensures.lawful c.acts-act-items.result.now c.loop-act.act-index c.act-item.result c.act-item.result c.acts-act-items.ensures.acts c.loop-act-test.true c.act-item.is c.effects.result.now c.loop-act.size c.effects_size-size.result c.effects.ensures c.effects_size-size.ensures.few c.loop-act.invariant.1 in
    omega (arith, h)

pub loop-act-preserved : goal.loop-act-preserved
loop-act-preserved c = effects_next c.args.task.now c.acts-act-items.ensures.lawful c.acts-act-items.result.now c.loop-act.act-index c.act-item.result c.act-item.result c.acts-act-items.ensures.acts c.loop-act-test.true c.act-item.is c.effects.result.now c.loop-act.size c.effects_size-size.result c.effects.ensures c.effects_size-size.ensures.size c.effects_size-size.ensures.few c.loop-act.invariant.0 c.loop-act.invariant.1

pub returns-clause-few : goal.returns-clause-few
returns-clause-few c = effects_done c.args.task.now c.loop-act.act-index c.loop-act.size c.acts-act-items.ensures.lawful c.loop-act.invariant.1
