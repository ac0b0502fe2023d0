use Rattle.std.proofs.Common.{arith, ◌+◌, ◌*◌, ◌∙◌, Some, sym, subst, ap}
use Rattle.clause_base.proofs.published.ToldLemmas.{get-told}
use Rattle.formula_defs.specs.Layout.{Layout, width, variables}
use Rattle.goal_choice.specs.Means.{start_of}
use Rattle.goal_choice.specs.own.Kept.{IsWalk}
use Rattle.goal_choice.specs.own.Told.{ToldView, walk_of}
use Rattle.goal_choice.proofs.Kept.{step_chain, step_behind, step_below, step_false}
use Rattle.goal_choice.proofs.told_walk.ToldWalk.same_from.Goals as goal

pub returns-then-v-width-clause-same : goal.returns-then-v-width-clause-same
returns-then-v-width-clause-same c =
    let z = c.layout.inside in
    let e = c.layout.view_is ∙ c.layout-layout.ensures.layout ∙ ap (λ (w : ToldView). w.means.layout) c.self.view_is in
    let s = c.step_start-steps.ensures.start ∙ ap (λ (y : Layout). z.horizon * width y) (sym c.layout.view_is) ∙ ap (λ (y : Layout). start_of y y.horizon) e in
    let looked_at = ap (λ (y : Layout). y.actions + y.conditional) e in
    let t = c.if-v-width.true in
    λ _. step_chain (walk_of c.args.self.now) c.args.v (z.actions + z.conditional + z.chains) c.step_start-steps.result c.args.value (subst (λ (w : ToldView). IsWalk (walk_of w)) c.self.view_is c.self.invariant.walk) s c.if-v-steps.false (ap (λ (y : Layout). width y) e) (omega (arith, looked_at, t))

pub returns-then-is_false-clause-same : goal.returns-then-is_false-clause-same
returns-then-is_false-clause-same c =
    let z = c.layout.inside in
    let e = c.layout.view_is ∙ c.layout-layout.ensures.layout ∙ ap (λ (w : ToldView). w.means.layout) c.self.view_is in
    let s = c.step_start-steps.ensures.start ∙ ap (λ (y : Layout). z.horizon * width y) (sym c.layout.view_is) ∙ ap (λ (y : Layout). start_of y y.horizon) e in
    λ h. step_false (walk_of c.args.self.now) c.args.v c.step_start-steps.result c.args.value (subst (λ (w : ToldView). IsWalk (walk_of w)) c.self.view_is c.self.invariant.walk) s c.if-v-steps.false c.if-is_false.ensures
    (get-told (variables c.args.self.now.means.layout) c.args.v c.args.self.now.told c.requires ∙ ap Some (h c.if-is_false.ensures))

pub returns-then-v-step_start-clause-same : goal.returns-then-v-step_start-clause-same
returns-then-v-step_start-clause-same c =
    let z = c.layout.inside in
    let layout = c.layout-layout.ensures.layout ∙ ap (λ (w : ToldView). w.means.layout) c.self.view_is in
    let e = c.layout.view_is ∙ layout in
    let s = c.step_start-steps.ensures.start ∙ ap (λ (y : Layout). z.horizon * width y) (sym c.layout.view_is) ∙ ap (λ (y : Layout). start_of y y.horizon) e in
    let first = c.step_start.ensures.start ∙ ap (λ (y : Layout). start_of y c.self.inside.low) layout ∙ ap (λ (w : ToldView). start_of c.args.self.now.means.layout w.low) c.self.view_is in
    λ _. step_below (walk_of c.args.self.now) c.args.v c.step_start-steps.result c.step_start.result c.args.value (subst (λ (w : ToldView). IsWalk (walk_of w)) c.self.view_is c.self.invariant.walk) s c.if-v-steps.false first c.if-v-step_start.true

pub returns-clause-same : goal.returns-clause-same
returns-clause-same c =
    let z = c.layout.inside in
    let e = c.layout.view_is ∙ c.layout-layout.ensures.layout ∙ ap (λ (w : ToldView). w.means.layout) c.self.view_is in
    let s = c.step_start-steps.ensures.start ∙ ap (λ (y : Layout). z.horizon * width y) (sym c.layout.view_is) ∙ ap (λ (y : Layout). start_of y y.horizon) e in
    λ _. step_behind (walk_of c.args.self.now) c.args.v (z.actions + z.conditional + z.chains) c.step_start-steps.result c.args.value (subst (λ (w : ToldView). IsWalk (walk_of w)) c.self.view_is c.self.invariant.walk) s c.if-v-steps.false (ap (λ (y : Layout). width y) e)
