use Rattle.std.proofs.Common.{◌≡◌, ◌≤◌, List, ℕ, length, drop, ◌++◌, append-nil, subst, sym, ap, ◌∙◌, arith}
use Rattle.std.proofs.lemmas.List.{drop_all}
use Rattle.gt_core.specs.Published.{order_of}
use Rattle.pd_model.specs.Plan.{IsPlan}
use Rattle.pd_model.specs.declared.calls.Call.{Call}
use Rattle.grounding_defs.specs.Laws.{AreNumbers}
use Rattle.step_plans.specs.Plans.{in_order}
use Rattle.step_plans.proofs.linear.linearise.Goals as goal

all_done : (order : List ℕ) (steps : List (List ℕ)) (i : ℕ) (actions : List ℕ) → length steps ≤ i → in_order order steps ≡ actions ++ in_order order (drop i steps) → actions ≡ in_order order steps
all_done order steps i actions past e = sym (append-nil actions) ∙ ap (λ (ss : List (List ℕ)). actions ++ in_order order ss) (sym (drop_all i steps past)) ∙ sym e

pub returns-clause-plan : goal.returns-clause-plan
returns-clause-plan c p g known n is lawful published plan =
    let steps : List (List ℕ) = c.args.steps.now in
    let past : length steps ≤ c.loop-set.set-index = let l = ap length c.as_slice-set-items.ensures in let h = c.loop-set-test.false in omega (arith, l, h) in
    let same : c.of.result ≡ in_order (order_of c.args.order.now) steps = c.of.ensures ∙ all_done (order_of c.args.order.now) steps c.loop-set.set-index c.loop-set.actions.items past c.loop-set.invariant in
    subst (λ (actions : List ℕ). (calls : List Call) × AreNumbers g calls actions × IsPlan p calls) (sym same) (c.laws.ensures.run p g known c.args.order.now steps n is lawful published plan)
