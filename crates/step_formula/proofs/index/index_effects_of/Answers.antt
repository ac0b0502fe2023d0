use Rattle.std.proofs.Common.{arith, List, [], ◌++◌, slice_index_or, sym, ap, ◌∙◌, subst}
use Rattle.std.proofs.lemmas.List.{drop_all, append-nil}
use Rattle.gt_core.specs.Task.{Effect}
use Rattle.gt_core.specs.Active.{EffectWithin}
use Rattle.step_formula.specs.Rows.{rows_of, made}
use Rattle.step_formula.proofs.Bounds.{each_place}
use Rattle.step_formula.proofs.RowLaw.{number_fits, number_next}
use Rattle.step_formula.proofs.IndexLaw.{made_step}
use Rattle.step_formula.proofs.index.index_effects_of.Goals as goal

pub index_effect-requires-clause-number : goal.index_effect-requires-clause-number
index_effect-requires-clause-number c =
    number_fits c.loop-effect.number c.args.layout.now.conditional c.args.effects.now c.loop-effect.effect-index c.effect-item.result c.effect-item.result c.loop-effect.invariant.fits c.loop-effect-test.true c.effect-item.is

pub index_effect-requires-clause-literal : goal.index_effect-requires-clause-literal
index_effect-requires-clause-literal c =
    let facts = c.args.layout.now.facts in
    let e = c.effect-item.result in
    let w : EffectWithin facts e = subst (EffectWithin facts) (sym c.effect-item.is) (each_place (EffectWithin facts) c.args.effects.now c.loop-effect.effect-index e c.requires.placed.within c.loop-effect-test.true) in
    let l = w.literal in
    let same = c.loop-effect.invariant.long in
    let long = c.requires.long in
    omega (arith, l, same, long)

pub number_after-number-requires : goal.number_after-number-requires
number_after-number-requires c = let h = c.loop-effect.invariant.fits in let f = c.requires.placed.few in omega (arith, h, f)

pub loop-effect-preserved : goal.loop-effect-preserved
loop-effect-preserved c =
    let z = c.args.layout.now in
    let es = c.args.effects.now in
    let i = c.loop-effect.effect-index in
    let e = c.effect-item.result in
    let number = c.loop-effect.number in
    let next = c.number_after-number.result in
    record {
      fits = number_next number z.conditional next es i e e c.loop-effect.invariant.fits c.loop-effect-test.true c.effect-item.is c.number_after-number.ensures;
      long = c.index_effect.ensures.long ∙ c.loop-effect.invariant.long;
      each = λ m. made_step z c.args.action m number next es i e e _ _ _ c.loop-effect-test.true c.effect-item.is c.number_after-number.ensures (c.loop-effect.invariant.each m) (c.in_ok-index_effect.ensures.each m);
    }

pub returns-clause-each : goal.returns-clause-each
returns-clause-each c m =
    sym (c.loop-effect.invariant.each m
    ∙ ap (λ (es : List Effect). slice_index_or c.loop-effect.index.items m [] ++ made c.args.layout.now m (rows_of c.args.action c.loop-effect.number es)) (drop_all c.loop-effect.effect-index c.args.effects.now c.loop-effect-test.false)
    ∙ append-nil (slice_index_or c.loop-effect.index.items m []))
