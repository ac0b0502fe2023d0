use Rattle.std.proofs.Common.{◌+◌, ◌/◌, ◌<◌, take, length, List, ℕ, subst, sym, ap, arith, ◌∙◌}
use Rattle.gt_core.specs.Task.{Effect}
use Rattle.gt_core.specs.Active.{EffectWithin}
use Rattle.gt_core.specs.Interference.{action_asks}
use Rattle.gt_core.proofs.published.Lists.{each_number}
use Rattle.action_order.specs.own.Readers.{IsEntered, has_fact, of_effects}
use Rattle.action_order.proofs.GrowLaw.{any_more}
use Rattle.action_order.proofs.ReadersLaw.{entered_then}
use Rattle.std.proofs.lemmas.List.{take_all}
use Rattle.action_order.proofs.readers.enter_effects.Goals as goal

pub loop-effect-preserved : goal.loop-effect-preserved
loop-effect-preserved c =
    let i = c.loop-effect.effect-index in
    let effects = c.args.effects.now in
    let e = c.effect-item.result in
    let one : IsEntered (has_fact e.condition) c.args.b c.loop-effect.rows.items c.enter_condition.new.rows.items = subst (λ (ls : List ℕ). IsEntered (has_fact ls) c.args.b c.loop-effect.rows.items c.enter_condition.new.rows.items) c.cond.ensures c.in_ok-enter_condition.ensures in
    let two = subst (λ (x : Effect). IsEntered (has_fact x.condition) c.args.b c.loop-effect.rows.items c.enter_condition.new.rows.items) c.effect-item.is one in
    entered_then (action_asks (of_effects (take i effects))) _ (action_asks (of_effects (take (i + 1) effects))) c.args.b c.args.rows.now.items c.loop-effect.rows.items c.enter_condition.new.rows.items c.loop-effect.invariant two (λ k. any_more (λ x. has_fact x.condition k) effects i e c.loop-effect-test.true)

pub returns : goal.returns
returns c = subst (λ (es : List Effect). IsEntered (action_asks (of_effects es)) c.args.b c.args.rows.now.items c.loop-effect.rows.items) (take_all c.loop-effect.effect-index c.args.effects.now (omega (arith, c.loop-effect-test.false))) c.loop-effect.invariant

pub enter_condition-requires : goal.enter_condition-requires
enter_condition-requires c =
    let rows = c.args.rows.now.items in
    let e = subst (EffectWithin (length rows)) (sym c.effect-item.is) (each_number (EffectWithin (length rows)) c.args.effects.now c.loop-effect.effect-index c.effect-item.result c.requires c.loop-effect-test.true) in
    rw (c.cond.ensures, c.loop-effect.invariant.long) e.condition
