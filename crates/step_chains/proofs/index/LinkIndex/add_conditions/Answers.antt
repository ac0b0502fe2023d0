use Rattle.std.proofs.Common.{◌==◌, ◌/◌, false, refl, ap, ◌∙◌}
use Rattle.std.specs.List.{list_any}
use Rattle.gt_core.specs.Task.{Effect}
use Rattle.step_chains.proofs.IndexLaw.{reads_next, none_left, marks_none, marks_same}
use Rattle.step_chains.proofs.index.LinkIndex.add_conditions.Goals as goal

pub loop-effect-preserved : goal.loop-effect-preserved
loop-effect-preserved c = (
  c.add_condition.ensures.long ∙ c.loop-effect.invariant.0,
  λ new rest. c.loop-effect.invariant.1 new
      (reads_next c.args.a (λ (e : Effect) m. list_any (λ k. k / 2 == m / 2) e.condition) c.args.effects.now c.loop-effect.effect-index c.effect-item.result c.effect-item.result c.loop-effect.self c.add_condition.new.self new
      c.loop-effect-test.true c.effect-item.is
      (marks_same c.args.a (λ m. false) (λ m. false) (λ m. list_any (λ k. k / 2 == m / 2) c.cond.result.now) (λ m. list_any (λ k. k / 2 == m / 2) c.effect-item.result.condition) c.loop-effect.self c.add_condition.new.self (λ m. refl) (λ m. ap (list_any (λ k. k / 2 == m / 2)) c.cond.ensures) c.in_ok-add_condition.ensures.marks) rest),
)

pub returns-clause-marks : goal.returns-clause-marks
returns-clause-marks c =
    c.loop-effect.invariant.1 c.loop-effect.self
    (marks_none c.args.a (λ m. false) _ c.loop-effect.self (λ m. refl) (λ m. none_left (λ (e : Effect). list_any (λ k. k / 2 == m / 2) e.condition) c.args.effects.now c.loop-effect.effect-index c.loop-effect-test.false))
