use Rattle.std.proofs.Common.{◌≡◌, ◌<◌, ◌∙◌, ◌*◌, ℕ, List, [], ap, sym, subst, true}
use Rattle.std.specs.Prelude.{slice_index_or}
use Rattle.std.specs.List.{AllByRecursion}
use Rattle.std.proofs.lemmas.List.{take_all}
use Rattle.gt_core.specs.Literal.{opposite, is_in}
use Rattle.gt_core.specs.Task.{Effect}
use Rattle.gt_core.proofs.published.Basics.{each_at}
use Rattle.implied_literals.specs.Tested.{EffectFits}
use Rattle.never_check.specs.Verdicts.{AreCasesRefuted, ArePassed, DoesNotPass}
use Rattle.never_check.proofs.Grown.{none_told}
use Rattle.never_check.proofs.Forwarding.{some_way, one_fails, all_passed}
use Rattle.never_check.proofs.Turns.{each_next, item_among}
use Rattle.never_check.proofs.forward.check_effects.Goals as goal

pub check_uses-requires-clause-lit : goal.check_uses-requires-clause-lit
check_uses-requires-clause-lit c =
    let x = c.args.trial.now.act.now in
    let mine = item_among c.effects-effect-items.result.now x.effects c.loop-effect.effect-index c.effect-item.result c.loop-effect-test.true c.effect-item.is c.effects-effect-items.ensures in
    let fits = (each_at (EffectFits (2 * c.args.trial.now.rules.now.known.now.facts)) x.effects c.effect-item.result c.requires.trial.fits.effects mine).literal in
    subst (λ (l : ℕ). l < 2 * c.args.trial.now.rules.now.known.now.facts) (sym (c.opposite.ensures ∙ ap opposite c.lit.ensures)) fits

pub returns-then-is_some-clause-told : goal.returns-then-is_some-clause-told
returns-then-is_some-clause-told c =
    let rules = c.args.trial.now.rules.now in
    let x = c.args.trial.now.act.now in
    let mine = item_among c.effects-effect-items.result.now x.effects c.loop-effect.effect-index c.effect-item.result c.loop-effect-test.true c.effect-item.is c.effects-effect-items.ensures in
    let same = c.opposite.ensures ∙ ap opposite c.lit.ensures in
    some_way _ (ArePassed rules x) _ (DoesNotPass rules x) c.in_ok-found.found (sym c.is_some.ensures ∙ c.if-is_some.true)
    (λ k t. one_fails rules x c.effect-item.result k c.requires.trial.rules.uses mine (t.0, subst (λ (l : ℕ). is_in (slice_index_or rules.uses.now l []) k ≡ true) same t.1, t.2)) c.in_ok-found.ensures.told

pub loop-effect-preserved : goal.loop-effect-preserved
loop-effect-preserved c =
    let rules = c.args.trial.now.rules.now in
    let same = c.opposite.ensures ∙ ap opposite c.lit.ensures in
    let told = none_told _ c.in_ok-found.found (sym c.is_some.ensures ∙ c.if-is_some.false) c.in_ok-found.ensures.told in
    record {
      kept = c.in_ok-found.ensures.kept ∙ c.loop-effect.invariant.kept;
      all =
          each_next (λ (e : Effect). (k : ℕ) → is_in (slice_index_or rules.uses.now (opposite e.literal) []) k ≡ true → AreCasesRefuted rules c.args.trial.now.act.now k) c.effects-effect-items.result.now c.loop-effect.effect-index c.effect-item.result c.loop-effect-test.true c.effect-item.is c.loop-effect.invariant.all
          (λ k i. told k (subst (λ (l : ℕ). is_in (slice_index_or rules.uses.now l []) k ≡ true) (sym same) i));
    }

pub returns-clause-told : goal.returns-clause-told
returns-clause-told c =
    let rules = c.args.trial.now.rules.now in
    all_passed rules c.args.trial.now.act.now c.requires.trial.rules.uses
    (subst (λ (es : List Effect). AllByRecursion (λ e. (k : ℕ) → is_in (slice_index_or rules.uses.now (opposite e.literal) []) k ≡ true → AreCasesRefuted rules c.args.trial.now.act.now k) es) (take_all c.loop-effect.effect-index c.effects-effect-items.result.now c.loop-effect-test.false ∙ c.effects-effect-items.ensures) c.loop-effect.invariant.all)
