use Rattle.std.proofs.Common.{◌*◌, subst, arith, ◌≡◌, length, ℕ}
use Rattle.gt_core.specs.Literal.{is_in}
use Rattle.gt_core.specs.Task.{Action}
use Rattle.gt_core.specs.Interference.{action_needs, action_asks}
use Rattle.action_order.specs.own.Readers.{IsEntered, needs, asks_of, of_effects, AreRowsOf}
use Rattle.action_order.proofs.ReadersLaw.{none_entered, entered_more, act_is, within_at}
use Rattle.action_order.proofs.readers.find_readers.Goals as goal

pub loop-b-init : goal.loop-b-init
loop-b-init c = record {
  needing = none_entered (needs c.args.acts.now) (2 * c.args.facts) c.in_ok-needing.needing.items c.in_ok-needing.ensures.long c.in_ok-needing.ensures.none;
  asking = none_entered (asks_of c.args.acts.now) c.args.facts c.in_ok-asking.asking.items c.in_ok-asking.ensures.long c.in_ok-asking.ensures.none;
}

pub loop-b-preserved : goal.loop-b-preserved
loop-b-preserved c =
    let acts = c.args.acts.now in
    let b = c.loop-b.b in
    let act = act_is acts b c.index-acts-b.result c.loop-b-test.true c.index-acts-b.is in
    let one : IsEntered (is_in c.index-acts-b.result.precondition) b c.loop-b.needing.items c.enter_literals.new.rows.items = rw c.pre.ensures at c.in_ok-enter_literals.ensures in
    let two : IsEntered (action_asks (of_effects c.index-acts-b.result.effects)) b c.loop-b.asking.items c.enter_effects.new.rows.items = rw c.effects.ensures at c.in_ok-enter_effects.ensures in
    record {
      needing = entered_more (needs acts) (2 * c.args.facts) b c.loop-b.needing.items c.enter_literals.new.rows.items c.loop-b.invariant.needing (subst (λ (x : Action). IsEntered (action_needs x) b c.loop-b.needing.items c.enter_literals.new.rows.items) act one);
      asking = entered_more (asks_of acts) c.args.facts b c.loop-b.asking.items c.enter_effects.new.rows.items c.loop-b.invariant.asking (subst (λ (x : Action). IsEntered (action_asks x) b c.loop-b.asking.items c.enter_effects.new.rows.items) act two);
    }

pub enter_literals-requires : goal.enter_literals-requires
enter_literals-requires c =
    let w = within_at c.args.facts c.args.acts.now c.loop-b.b c.index-acts-b.result c.requires.within c.loop-b-test.true c.index-acts-b.is in
    rw (c.pre.ensures, c.loop-b.invariant.needing.long) w.precondition

pub enter_effects-requires : goal.enter_effects-requires
enter_effects-requires c =
    let w = within_at c.args.facts c.args.acts.now c.loop-b.b c.index-acts-b.result c.requires.within c.loop-b-test.true c.index-acts-b.is in
    rw (c.effects.ensures, c.loop-b.invariant.asking.long) w.effects

pub returns-clause-needing : goal.returns-clause-needing
returns-clause-needing c =
    let end : c.loop-b.b ≡ length c.args.acts.now = omega (arith, c.loop-b-test.false, c.loop-b.auto.b-end) in
    subst (λ (n : ℕ). AreRowsOf (needs c.args.acts.now) (2 * c.args.facts) n c.loop-b.needing.items) end c.loop-b.invariant.needing

pub returns-clause-asking : goal.returns-clause-asking
returns-clause-asking c =
    let end : c.loop-b.b ≡ length c.args.acts.now = omega (arith, c.loop-b-test.false, c.loop-b.auto.b-end) in
    subst (λ (n : ℕ). AreRowsOf (asks_of c.args.acts.now) (c.args.facts) n c.loop-b.asking.items) end c.loop-b.invariant.asking
