use Rattle.std.proofs.Common.{arith, ◌<◌, ◌≤◌, ◌+◌, ◌++◌, ℕ, List, length, count_by, ap, sym, ◌∙◌}
use Rattle.std.proofs.lemmas.List.{drop_all, append-nil}
use Rattle.formula_defs.specs.Layout.{Layout}
use Rattle.gt_core.specs.Task.{Action, effects_from}
use Rattle.gt_core.specs.Lawful.{is_conditional}
use Rattle.formula_defs.specs.Variables.{rows, rows_from}
use Rattle.formula_defs.specs.Coded.{coded}
use Rattle.step_formula.specs.Rows.{effects_of}
use Rattle.step_formula.proofs.Placing.{placed}
use Rattle.step_formula.proofs.RowLaw.{first_more}
use Rattle.step_formula.proofs.EffectLaw.{actions_step}
use Rattle.step_formula.proofs.AddersLaw.{sorted_by}
use Rattle.step_formula.proofs.effects.add_effects.Goals as goal

pub add_effects_of-requires-clause-placed : goal.add_effects_of-requires-clause-placed
add_effects_of-requires-clause-placed c =
    let e = ap (λ (z : Layout). z.actions) c.layout.view_is in
    let lt : c.loop-a.a < length c.args.task.now.actions = let r = c.requires.actions in let t = c.loop-a-test.true in omega (arith, e, r, t) in
    placed c.args.task.now c.args.layout.now c.loop-a.a c.loop-a.first c.act-act.result.now c.effects.result.now c.requires.horizon c.requires.actions c.requires.conditional c.requires.facts
    c.act-act.ensures.act c.effects.ensures c.act-act.ensures.lawful lt c.loop-a.invariant.0

pub loop-a-preserved : goal.loop-a-preserved
loop-a-preserved c =
    let e = ap (λ (z : Layout). z.actions) c.layout.view_is in
    let lt : c.loop-a.a < length c.args.task.now.actions = let r = c.requires.actions in let t = c.loop-a-test.true in omega (arith, e, r, t) in (
      first_more c.args.task.now c.loop-a.a c.loop-a.first c.conditional.result c.act-act.result.now c.act-act.ensures.act c.conditional.ensures lt c.loop-a.invariant.0,
      actions_step c.args.layout.now c.args.task.now c.loop-a.a c.loop-a.first (c.loop-a.first + c.conditional.result) c.effects.result.now _ c.loop-a.clauses c.add_effects_of.new.clauses lt
          (c.effects.ensures ∙ ap (λ (x : Action). x.effects) c.act-act.ensures.act) c.loop-a.invariant.0
          (ap (λ (k : ℕ). c.loop-a.first + k) (c.conditional.ensures ∙ ap (count_by is_conditional) (sym c.effects.ensures))) c.loop-a.invariant.1 c.in_ok-add_effects_of.ensures,
    )

pub add_effects_of-requires-clause-sorted : goal.add_effects_of-requires-clause-sorted
add_effects_of-requires-clause-sorted c =
    let e = ap (λ (z : Layout). z.actions) c.layout.view_is in
    let lt : c.loop-a.a < length c.args.task.now.actions = let r = c.requires.actions in let t = c.loop-a-test.true in omega (arith, e, r, t) in
    sorted_by c.args.layout.now.facts c.args.task.now c.loop-a.a c.effects.result.now c.requires.facts c.act-act.ensures.lawful lt (c.effects.ensures ∙ ap (λ (x : Action). x.effects) c.act-act.ensures.act)

pub returns : goal.returns
returns c =
    let z = c.args.layout.now in
    let task = c.args.task.now in
    let e = ap (λ (z : Layout). z.actions) c.layout.view_is in
    let past : length task.actions ≤ c.loop-a.a = let r = c.requires.actions in let t = c.loop-a-test.false in omega (arith, e, r, t) in
    sym (c.loop-a.invariant.1
    ∙ ap (λ (xs : List Action). c.loop-a.clauses ++ coded (effects_of z (rows task) (rows_from c.loop-a.first (effects_from c.loop-a.a xs)))) (drop_all c.loop-a.a task.actions past)
    ∙ append-nil c.loop-a.clauses)
