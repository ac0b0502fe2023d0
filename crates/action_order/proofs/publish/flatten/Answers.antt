use Rattle.std.proofs.Common.{◌+◌, ◌++◌, List, ℕ, drop, ap, sym, ◌∙◌}
use Rattle.std.proofs.lemmas.List.{at_drop_more, append_assoc}
use Rattle.gt_core.specs.Published.{order_of}
use Rattle.action_order.proofs.publish.flatten.Goals as goal

pub loop-component-preserved : goal.loop-component-preserved
loop-component-preserved c =
    let all = c.args.components.now in
    let i = c.loop-component.component-index in
    let order = c.loop-component.order.items in
    let one = c.component-item.result in
    let rest = order_of (drop (i + 1) all) in
    c.loop-component.invariant
    ∙ ap (λ (ks : List ℕ). order ++ ks) (at_drop_more order_of all i one c.loop-component-test.true ∙ ap (λ (ks : List ℕ). ks ++ rest) (sym c.component-item.is))
    ∙ sym (append_assoc order one rest)
    ∙ ap (λ (ks : List ℕ). ks ++ rest) (sym (c.in_ok-extend_from_slice.ensures.items ∙ ap (λ (ks : List ℕ). order ++ ks) c.as_slice.ensures))
