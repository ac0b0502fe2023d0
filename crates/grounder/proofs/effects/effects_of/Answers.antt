use Rattle.std.proofs.Common.{arith}
use Rattle.grounder.specs.own.Putting.{effects_at}
use Rattle.grounder.proofs.Put.{effect_added}
use Rattle.grounder.proofs.effects.effects_of.Goals as goal

pub loop-effect-preserved : goal.loop-effect-preserved
loop-effect-preserved c =
    effect_added c.args.known.now.domains.now c.args.known.now.facts c.args.objects.now c.args.effects.now c.loop-effect.effect-index c.effect-item.result (omega arith) c.effect-item.is
    (effects_at c.loop-effect.all.items) (effects_at c.add_instances.new.into.items) c.loop-effect.invariant c.in_ok-add_instances.ensures
