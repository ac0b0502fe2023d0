use Rattle.std.proofs.Common.{arith, refl, take, sym, ◌∙◌, subst, List}
use Rattle.gt_core.specs.Task.{Effect}
use Rattle.step_formula.specs.own.Adds.{IsCount}
use Rattle.formula_defs.proofs.published.Sorted.{effects_few, sorted_before, taken_more}
use Rattle.step_formula.proofs.WalkLaw.{effect_next, condition_few, split_at, result_whole}
use Rattle.step_formula.proofs.effect_size.effects_size.Goals as goal

pub meaning_size-requires : goal.meaning_size-requires
meaning_size-requires c =
    condition_few c.args.facts c.args.effects.now c.loop-effect.effect-index c.effect-item.result c.effect-item.result c.requires.facts c.requires.sorted c.loop-effect-test.true c.effect-item.is

pub overflow_add-size-in-loop-effect : goal.overflow_add-size-in-loop-effect
overflow_add-size-in-loop-effect c =
    let f = effects_few c.args.facts c.args.effects.now c.requires.sorted in
    omega (arith, f, c.requires.facts, c.requires.few, c.loop-effect-test.true, c.loop-effect.invariant.1, c.loop-effect.invariant.2, c.meaning_size.ensures.few, c.result_size.ensures.few)

pub with-adds-requires : goal.with-adds-requires
with-adds-requires c =
    let f = effects_few c.args.facts c.args.effects.now c.requires.sorted in
    omega (arith, f, c.requires.facts, c.requires.few, c.loop-effect-test.true, c.loop-effect.invariant.2)

pub loop-effect-preserved : goal.loop-effect-preserved
loop-effect-preserved c =
    let es = c.args.effects.now in
    let i = c.loop-effect.effect-index in
    let e = c.effect-item.result in
    let f = effects_few c.args.facts es c.requires.sorted in
    let a = c.requires.facts in
    let b = c.requires.few in
    let lt = c.loop-effect-test.true in
    let s = c.loop-effect.invariant.1 in
    let n = c.loop-effect.invariant.2 in
    let m = c.meaning_size.ensures.few in
    let r = c.result_size.ensures.few in
    let k = c.with-adds.ensures.few in
    let p = split_at c.args.facts es i e e c.requires.sorted lt c.effect-item.is in
    let before = sorted_before c.args.facts es i e e c.requires.sorted lt c.effect-item.is in
    let size = c.result_size.ensures.size (take i es) before c.loop-effect.invariant.3 ∙ result_whole c.args.facts es i e p in (
      effect_next es es i e e c.loop-effect.size c.meaning_size.result c.result_size.result refl lt c.effect-item.is c.meaning_size.ensures.size size c.loop-effect.invariant.0,
      omega (arith, f, a, b, lt, s, n, m, r),
      omega (arith, n, k),
      subst (λ (xs : List Effect). IsCount c.with-adds.result xs) (sym (taken_more es i e e lt c.effect-item.is)) (c.with-adds.ensures.count (take i es) before c.loop-effect.invariant.3),
    )
