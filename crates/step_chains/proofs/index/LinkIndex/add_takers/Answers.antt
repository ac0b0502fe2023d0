use Rattle.std.proofs.Common.{arith, ◌<◌, ◌==◌, ℕ, false, length, refl, ap, ◌∙◌}
use Rattle.gt_core.specs.Literal.{opposite}
use Rattle.gt_core.specs.Task.{Effect}
use Rattle.gt_core.proofs.published.Lists.{each_number}
use Rattle.step_chains.proofs.IndexLaw.{takes_next, none_left, marks_none, opposite_is, marks_same}
use Rattle.step_chains.proofs.index.LinkIndex.add_takers.Goals as goal

pub loop-effect-preserved : goal.loop-effect-preserved
loop-effect-preserved c = (
  c.mark_taker.ensures.long ∙ c.loop-effect.invariant.0,
  λ new rest. c.loop-effect.invariant.1 new
      (takes_next c.args.a (λ (e : Effect) m. e.literal == opposite m) c.args.effects.now c.loop-effect.effect-index c.effect-item.result c.effect-item.result c.loop-effect.self c.mark_taker.new.self new
      c.loop-effect-test.true c.effect-item.is
      (marks_same c.args.a (λ m. c.opposite.result == m) (λ m. c.effect-item.result.literal == opposite m) (λ m. false) (λ m. false) c.loop-effect.self c.mark_taker.new.self (λ m. ap (λ (k : ℕ). k == m) (c.opposite.ensures ∙ ap opposite c.lit.ensures) ∙ opposite_is c.effect-item.result.literal m) (λ m. refl) c.in_ok-mark_taker.ensures.marks) rest),
)

pub returns-clause-marks : goal.returns-clause-marks
returns-clause-marks c =
    c.loop-effect.invariant.1 c.loop-effect.self
    (marks_none c.args.a _ (λ m. false) c.loop-effect.self (λ m. none_left (λ (e : Effect). e.literal == opposite m) c.args.effects.now c.loop-effect.effect-index c.loop-effect-test.false) (λ m. refl))

pub mark_taker-requires : goal.mark_taker-requires
mark_taker-requires c =
    let w = each_number (λ (e : Effect). opposite e.literal < length c.args.self.now) c.args.effects.now c.loop-effect.effect-index c.effect-item.result c.requires c.loop-effect-test.true in
    let at = c.opposite.ensures ∙ ap opposite c.lit.ensures ∙ ap (λ (e : Effect). opposite e.literal) c.effect-item.is in
    let same = c.loop-effect.invariant.0 in
    omega (arith, w, at, same)
