use Rattle.std.proofs.Common.{arith, ◌<◌, ◌≤◌, ◌+◌, ℕ, length, count_by, ap, sym, ◌∙◌, []}
use Rattle.formula_defs.specs.Layout.{Layout}
use Rattle.gt_core.specs.Task.{Action}
use Rattle.gt_core.specs.Lawful.{is_conditional}
use Rattle.step_formula.proofs.Placing.{placed, own_few}
use Rattle.step_formula.proofs.RowLaw.{first_more}
use Rattle.step_formula.proofs.IndexLaw.{made_more, made_whole}
use Rattle.step_formula.proofs.index.index_of.Goals as goal

pub loop-a-preserved : goal.loop-a-preserved
loop-a-preserved c =
    let e = ap (λ (z : Layout). z.actions) c.layout.view_is in
    let lt : c.loop-a.a < length c.args.task.now.actions = let r = c.requires.actions in let t = c.loop-a-test.true in omega (arith, e, r, t) in
    record {
      first = first_more c.args.task.now c.loop-a.a c.loop-a.first c.conditional.result c.act-act.result.now c.act-act.ensures.act c.conditional.ensures lt c.loop-a.invariant.first;
      long = c.index_effects_of.ensures.long ∙ c.loop-a.invariant.long;
      each = λ m.
          made_more c.args.layout.now m c.loop-a.a c.loop-a.first (c.loop-a.first + c.conditional.result) c.args.task.now.actions (record { precondition = []; effects = [] }) c.effects.result.now _ _ _ lt
          (c.effects.ensures ∙ ap (λ (x : Action). x.effects) c.act-act.ensures.act)
          (ap (λ (k : ℕ). c.loop-a.first + k) (c.conditional.ensures ∙ ap (count_by is_conditional) (sym c.effects.ensures))) (c.loop-a.invariant.each m) (c.in_ok-index_effects_of.ensures.each m);
    }

pub index_effects_of-requires-clause-placed : goal.index_effects_of-requires-clause-placed
index_effects_of-requires-clause-placed c =
    let e = ap (λ (z : Layout). z.actions) c.layout.view_is in
    let lt : c.loop-a.a < length c.args.task.now.actions = let r = c.requires.actions in let t = c.loop-a-test.true in omega (arith, e, r, t) in
    placed c.args.task.now c.args.layout.now c.loop-a.a c.loop-a.first c.act-act.result.now c.effects.result.now c.requires.horizon c.requires.actions c.requires.conditional c.requires.facts
    c.act-act.ensures.act c.effects.ensures c.act-act.ensures.lawful lt c.loop-a.invariant.first

pub index_effects_of-requires-clause-long : goal.index_effects_of-requires-clause-long
index_effects_of-requires-clause-long c = let e = c.requires.facts in let h = c.loop-a.invariant.long in omega (arith, e, h)

pub returns : goal.returns
returns c =
    let e = ap (λ (z : Layout). z.actions) c.layout.view_is in
    let past : length c.args.task.now.actions ≤ c.loop-a.a = let r = c.requires.actions in let t = c.loop-a-test.false in omega (arith, e, r, t) in
    record {
      long = c.loop-a.invariant.long;
      each = λ m lt. made_whole c.args.layout.now m c.loop-a.a c.loop-a.first c.args.task.now.actions _ _ past (c.loop-a.invariant.each m);
    }

pub overflow_cast-first : goal.overflow_cast-first
overflow_cast-first c =
    let e = ap (λ (z : Layout). z.actions) c.layout.view_is in
    let h = own_few c.args.task.now c.loop-a.a c.loop-a.first c.conditional.result c.act-act.result.now c.act-act.ensures.act c.conditional.ensures c.act-act.ensures.lawful (let r = c.requires.actions in let t = c.loop-a-test.true in omega (arith, e, r, t)) c.loop-a.invariant.first in
    omega (arith, h)

pub overflow_add-first : goal.overflow_add-first
overflow_add-first c =
    let e = ap (λ (z : Layout). z.actions) c.layout.view_is in
    let h = own_few c.args.task.now c.loop-a.a c.loop-a.first c.conditional.result c.act-act.result.now c.act-act.ensures.act c.conditional.ensures c.act-act.ensures.lawful (let r = c.requires.actions in let t = c.loop-a-test.true in omega (arith, e, r, t)) c.loop-a.invariant.first in
    omega (arith, h)
