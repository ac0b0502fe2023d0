use Rattle.std.proofs.Common.{arith, ◌<◌, [], length, refl, ◌∙◌}
use Rattle.std.proofs.lemmas.List.{get_or_read, length-set}
use Rattle.action_order.specs.own.Graph.{class_at}
use Rattle.gt_core.proofs.published.Lists.{each_number}
use Rattle.action_order.proofs.GroupLaw.{group_more}
use Rattle.action_order.proofs.group.group.Goals as goal

pub loop-a-preserved : goal.loop-a-preserved
loop-a-preserved c =
    let i = c.loop-a.invariant in
    let own = class_at c.args.numbers.now c.loop-a.a in
    let below = each_number _ c.args.numbers.now c.loop-a.a 0 c.requires.below (omega arith) in
    let lt : own < length c.loop-a.groups.items = let l = i.long in omega arith in
    let old = get_or_read c.loop-a.groups.items own c.index_mut-list.result.now lt c.index_mut-list.ensures.value [] in
    let more = group_more c.args.numbers.now c.loop-a.groups.items c.loop-a.a own refl lt (λ x lx. i.members x (let l = i.long in omega arith)) in
    rw (c.in_ok-push.ensures.ok, old) (record {
      long = length-set c.loop-a.groups.items own _ ∙ i.long;
      members = λ x lx. more x (let l = i.long in omega arith);
    })
