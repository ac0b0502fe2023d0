use Rattle.std.proofs.Common.{◌≡◌, ℕ, List, length, ap, ◌∙◌, sym}
use Rattle.std.specs.List.{filter}
use Rattle.formula_defs.specs.Layout.{Layout, action_at}
use Rattle.gt_core.specs.Published.{order_of}
use Rattle.clause_base.specs.Formula.{assignment_of}
use Rattle.step_laws.specs.Form.{OrderedTask}
use Rattle.step_encoding.proofs.Counted.{set_more}
use Rattle.step_encoding.proofs.Whole.{members_fit}
use Rattle.step_encoding.proofs.placed.PlacedStepForm.steps_of.Goals as goal

pub true_actions-requires-clause-members : goal.true_actions-requires-clause-members
true_actions-requires-clause-members g c =
    let form : OrderedTask = record { task = c.self.inside.task.now; known = c.self.inside.pairs.now; components = c.self.inside.order.now } in
    members_fit form c.self.invariant.ordered c.layout-layout.result.actions (ap (λ (z : Layout). z.actions) c.layout-layout.ensures ∙ ap (λ (f : OrderedTask). length f.task.actions) (sym c.self.view_is))

pub loop-t-preserved : goal.loop-t-preserved
loop-t-preserved g c =
    let z = c.layout-layout.result in
    let same : c.self.inside.order.now ≡ c.args.self.now.components = ap (λ (f : OrderedTask). f.components) c.self.view_is in
    set_more (λ u. filter (λ a. assignment_of c.args.values.now (action_at z u a)) (order_of c.args.self.now.components)) c.loop-t.t c.in_ok-true_actions.field-0 c.loop-t.steps.items c.push.new.self.items c.loop-t.invariant
    (c.in_ok-true_actions.ensures ∙ ap (λ (ks : List (List ℕ)). filter (λ a. assignment_of c.args.values.now (action_at z c.loop-t.t a)) (order_of ks)) same)
    c.in_ok-push.ensures.items
