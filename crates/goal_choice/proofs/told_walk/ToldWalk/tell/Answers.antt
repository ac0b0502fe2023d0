use Rattle.std.proofs.Common.{arith, ◌≤◌, ◌<◌, ◌/◌, sym, subst}
use Rattle.formula_defs.specs.Layout.{variables}
use Rattle.goal_choice.specs.own.Told.{ToldView}
use Rattle.goal_choice.proofs.Told.{tell_keeps}
use Rattle.goal_choice.proofs.told_walk.ToldWalk.tell.Goals as goal

pub invariant_of-self : goal.invariant_of-self
invariant_of-self c =
    let s = c.self.inside in
    let end = c.same_from-end.result in
    let top : end ≤ s.means.layout.horizon = subst (λ (w : ToldView). end ≤ w.means.layout.horizon) (sym c.self.view_is) c.same_from-end.ensures.within in
    let below = subst (λ (w : ToldView). c.args.lit / 2 < variables w.means.layout) (sym c.self.view_is) c.requires.below in
    let room = c.push_reserved.ensures.capacity in
    tell_keeps _ c.args.self.now c.args.lit c.variable.result c.max-self-inside.result end s.before.facts _ _ c.is_positive.result c.push_reserved.new.self.items c.self.view_is c.self.invariant
    c.variable.ensures.value c.is_positive.ensures c.same_from-end.ensures.same c.max-self-inside.ensures top below c.push_reserved.ensures.items (omega (arith, room))
