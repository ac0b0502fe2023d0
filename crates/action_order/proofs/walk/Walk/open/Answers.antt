use Rattle.std.proofs.Common.{List, sym, subst, Some}
use Rattle.action_order.specs.own.Walk.{IsLowest, AllReach}
use Rattle.action_order.specs.declared.walk.Mark.{Mark}
use Rattle.action_order.proofs.published.Lists.{reaches_more, reaches_edge}
use Rattle.action_order.proofs.WalkLaw.{lowest_place}
use Rattle.action_order.proofs.walk.Walk.open.Goals as goal

pub join-requires-clause-to : goal.join-requires-clause-to
join-requires-clause-to c =
    let l = subst (IsLowest c.args.targets.now c.args.self.now.marks.items c.args.v) c.in-Some.is c.lowest.ensures in
    (lowest_place c.args.targets.now _ _ _ _ _ c.requires.walk.walk c.args.v c.in-Some.to l).0

pub join-requires-clause-reached : goal.join-requires-clause-reached
join-requires-clause-reached c =
    let l = subst (IsLowest c.args.targets.now c.args.self.now.marks.items c.args.v) c.in-Some.is c.lowest.ensures in
    let o = lowest_place c.args.targets.now _ _ _ _ _ c.requires.walk.walk c.args.v c.in-Some.to l in
    subst (AllReach c.args.targets.now c.args.self.now.stack.items) (sym o.1)
    (λ p lt. reaches_more _ _ c.args.v _ (c.requires.reached p lt) (reaches_edge _ c.args.v l.0.0 l.0.1))

pub push_alone-requires-clause-alone : goal.push_alone-requires-clause-alone
push_alone-requires-clause-alone c = subst (IsLowest c.args.targets.now c.args.self.now.marks.items c.args.v) c.in-None.is c.lowest.ensures

pub push_joined-requires-clause-lowest : goal.push_joined-requires-clause-lowest
push_joined-requires-clause-lowest c =
    let l = subst (IsLowest c.args.targets.now c.args.self.now.marks.items c.args.v) c.in-Some.is c.lowest.ensures in
    subst (λ (ms : List Mark). IsLowest c.args.targets.now ms c.args.v (Some c.in-Some.to)) (sym c.join.ensures.marks) l
