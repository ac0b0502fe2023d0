use Rattle.std.proofs.lemmas.List.{take_all}
use Rattle.pd_model.specs.declared.effects.Effect.{Effect}
use Rattle.std.proofs.Common.{◌∙◌}
use Rattle.pd_model.specs.Exec.{active}
use Rattle.pd_model.specs.Instance.{agrees}
use Rattle.pd_model.proofs.Tried.{active_more}
use Rattle.pd_model.proofs.exec.active_atoms.Goals as goal

pub loop-effect-preserved : goal.loop-effect-preserved
loop-effect-preserved c =
    let added = rw c.loop-effect.invariant.0 at c.in_ok-add_signed.ensures.added in (
      c.in_ok-add_signed.ensures.kept ∙ c.loop-effect.invariant.0,
      active_more (active c.args.p.now c.args.state.now c.args.objects.now) (λ (e : Effect). agrees c.args.sign e.adds) c.args.effects.now c.loop-effect.effect-index c.effect-item.result c.loop-effect.atoms c.add_signed.new.into c.loop-effect-test.true c.effect-item.is c.loop-effect.invariant.1 added,
    )

pub returns : goal.returns
returns c = rw (take_all c.loop-effect.effect-index c.args.effects.now c.loop-effect-test.false) at c.loop-effect.invariant.1
