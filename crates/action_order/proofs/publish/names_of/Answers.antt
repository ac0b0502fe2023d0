use Rattle.std.proofs.Common.{◌<◌, ◌+◌, ◌++◌, ◌∷◌, [], ◌∙◌, ℕ, List, length, map, drop, ap, sym}
use Rattle.std.proofs.lemmas.List.{at_drop_more, append_assoc}
use Rattle.gt_core.proofs.published.Lists.{each_number}
use Rattle.action_order.specs.own.Graph.{item}
use Rattle.action_order.proofs.publish.names_of.Goals as goal

pub bounds-names-number : goal.bounds-names-number
bounds-names-number c = each_number (λ x. x < length c.args.names.now) c.args.numbers.now c.loop-number.number-index 0 c.requires c.loop-number-test.true

pub loop-number-preserved : goal.loop-number-preserved
loop-number-preserved c =
    let name = item c.args.names.now in
    let numbers = c.args.numbers.now in
    let i = c.loop-number.number-index in
    let all = c.loop-number.all.items in
    let rest = map name (drop (i + 1) numbers) in
    c.loop-number.invariant
    ∙ ap (λ (ks : List ℕ). all ++ ks) (at_drop_more (map name) numbers i 0 c.loop-number-test.true)
    ∙ sym (append_assoc all (name (item numbers i) ∷ []) rest)
    ∙ ap (λ (ks : List ℕ). ks ++ rest) (sym c.in_ok-push.ensures.items)
