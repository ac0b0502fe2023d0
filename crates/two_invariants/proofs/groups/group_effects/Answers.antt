use Rattle.std.proofs.Common.{◌∙◌}
use Rattle.implied_literals.specs.Tested.{EffectFits}
use Rattle.two_invariants.proofs.Grouping.{effects_more, all_read}
use Rattle.two_invariants.proofs.groups.group_effects.Goals as goal

pub loop-effect-preserved : goal.loop-effect-preserved
loop-effect-preserved c = record {
  same = λ k test.
      effects_more c.loop-effect.groups.items c.put.new.groups.items c.args.effects.now c.loop-effect.effect-index c.effect-item.result k test c.loop-effect-test.true c.effect-item.is (c.in_ok-put.ensures.has k test)
      ∙ c.loop-effect.invariant.same k test;
  fit = λ size all. c.in_ok-put.ensures.fit size (all_read (EffectFits size) c.args.effects.now c.loop-effect.effect-index c.effect-item.result all c.loop-effect-test.true c.effect-item.is) (c.loop-effect.invariant.fit size all);
}
