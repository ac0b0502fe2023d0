use Rattle.std.proofs.Common.{arith, ◌<◌, ◌+◌, ◌++◌, ◌∷◌, [], ◌∙◌, ℕ, List, length, map, drop, ap, sym}
use Rattle.std.proofs.lemmas.List.{get_or_read, at_drop_more, append_assoc}
use Rattle.gt_core.proofs.published.Lists.{each_number}
use Rattle.action_order.specs.own.Graph.{item}
use Rattle.action_order.specs.own.Group.{members}
use Rattle.action_order.proofs.group.list.Goals as goal

pub loop-c-preserved : goal.loop-c-preserved
loop-c-preserved c =
    let order = c.args.order.now in
    let i = c.loop-c.c-index in
    let x = item order i in
    let all = c.loop-c.components.items in
    let own = members c.args.numbers.now in
    let rest = map own (drop (i + 1) order) in
    let below = each_number (λ k. k < c.args.count) order i 0 c.requires.order c.loop-c-test.true in
    let inside : x < length c.in_ok-groups.groups.items = omega (arith, below, c.in_ok-groups.ensures.long) in
    let one = c.in_ok-copied_from.ensures ∙ c.as_slice.ensures ∙ get_or_read c.in_ok-groups.groups.items x c.index.result.now inside c.index.ensures [] ∙ c.in_ok-groups.ensures.members x below in
    c.loop-c.invariant
    ∙ ap (λ (ls : List (List ℕ)). all ++ ls) (at_drop_more (map own) order i 0 c.loop-c-test.true)
    ∙ sym (append_assoc all (own x ∷ []) rest)
    ∙ ap (λ (ls : List (List ℕ)). ls ++ rest) (sym (c.in_ok-push.ensures.items ∙ ap (λ (l : List ℕ). all ++ l ∷ []) one))
