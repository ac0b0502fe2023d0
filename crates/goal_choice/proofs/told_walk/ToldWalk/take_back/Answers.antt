use Rattle.std.proofs.Common.{arith, ◌≡◌, ◌≤◌, ◌<◌, ◌-◌, length, sym, subst}
use Rattle.goal_choice.specs.own.Told.{ToldView}
use Rattle.goal_choice.proofs.Told.{take_back_keeps}
use Rattle.goal_choice.proofs.told_walk.ToldWalk.take_back.Goals as goal

pub invariant_of-self : goal.invariant_of-self
invariant_of-self c =
    let s = c.self.inside in
    let end = c.same_from-end.result in
    let top : end ≤ s.means.layout.horizon = subst (λ (w : ToldView). end ≤ w.means.layout.horizon) (sym c.self.view_is) c.same_from-end.ensures.within in
    let some : 0 < length s.own.items = subst (λ (w : ToldView). 0 < length w.told) (sym c.self.view_is) c.requires in
    let at : c.len-last.result - 1 ≡ length s.own.items - 1 = let e = c.len-last.ensures in let k = s.own.ok.0 in omega (arith, e, k) in
    let room = c.truncate.ensures.capacity in
    take_back_keeps _ c.args.self.now c.index-lit.result.now c.variable.result c.max-self-inside.result end (c.len-last.result - 1) s.before.facts _ _ c.truncate.new.self.items c.self.view_is c.self.invariant some at
    c.index-lit.ensures c.variable.ensures.value c.same_from-end.ensures.same c.max-self-inside.ensures top c.truncate.ensures.items (omega (arith, room))
