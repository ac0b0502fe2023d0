use Rattle.std.proofs.Common.{arith, ◌++◌, List, refl, sym, ap, ◌∙◌, subst}
use Rattle.std.proofs.lemmas.List.{drop_all, append-nil}
use Rattle.gt_core.specs.Task.{Effect}
use Rattle.gt_core.specs.Active.{EffectWithin}
use Rattle.formula_defs.proofs.published.Sorted.{sorted_before, taken_more}
use Rattle.formula_defs.specs.Coded.{coded}
use Rattle.step_formula.specs.Rows.{rows_of, effects_of}
use Rattle.step_formula.specs.own.Adders.{IsAdders}
use Rattle.step_formula.proofs.RowLaw.{number_fits, number_next, number_taken}
use Rattle.step_formula.proofs.Bounds.{each_place}
use Rattle.step_formula.proofs.EffectLaw.{effects_step}
use Rattle.step_formula.proofs.AddersLaw.{no_adders, overruling}
use Rattle.step_formula.proofs.effects.add_effects_of.Goals as goal

pub loop-effect-preserved : goal.loop-effect-preserved
loop-effect-preserved c =
    let z = c.args.layout.now in
    let a = c.args.action in
    let es = c.args.effects.now in
    let i = c.loop-effect.effect-index in
    let e = c.effect-item.result in
    let lt = c.loop-effect-test.true in
    let number = c.loop-effect.number in
    let next = c.number_after-number.result in
    let over = overruling z a c.args.first z.facts es i e e c.requires.sorted lt c.effect-item.is c.loop-effect.adders.lit c.loop-effect.adders.vars.items c.loop-effect.invariant.3 in
    let noted = c.in_ok-note.ensures c.args.first _ c.loop-effect.invariant.2 (sorted_before z.facts es i e e c.requires.sorted lt c.effect-item.is) c.loop-effect.invariant.3 in (
      number_next number z.conditional next es i e e c.loop-effect.invariant.0 lt c.effect-item.is c.number_after-number.ensures,
      effects_step z a number next (rows_of a c.args.first es) es i e e _ c.loop-effect.clauses c.add_effect.new.clauses lt c.effect-item.is c.number_after-number.ensures c.loop-effect.invariant.1 (c.in_ok-add_effect.ensures (rows_of a c.args.first es) over),
      number_taken c.args.first number next es i e e c.loop-effect.invariant.2 lt c.effect-item.is c.number_after-number.ensures,
      subst (λ (xs : List Effect). IsAdders z a c.args.first xs c.note.new.self.lit c.note.new.self.vars.items) (sym (taken_more es i e e lt c.effect-item.is)) noted,
    )

pub loop-effect-init : goal.loop-effect-init
loop-effect-init c = (
  c.requires.placed.numbers,
  refl,
  omega arith,
  no_adders c.args.layout.now c.args.action c.args.first c.none-adders.result.lit c.none-adders.result.vars.items c.none-adders.ensures,
)

pub add_effect-requires : goal.add_effect-requires
add_effect-requires c =
    let z = c.args.layout.now in
    let es = c.args.effects.now in
    let i = c.loop-effect.effect-index in
    let e = c.effect-item.result in
    let lt = c.loop-effect-test.true in
    record {
      horizon = c.requires.placed.horizon;
      action = c.requires.placed.action;
      number = number_fits c.loop-effect.number z.conditional es i e e c.loop-effect.invariant.0 lt c.effect-item.is;
      within = subst (EffectWithin z.facts) (sym c.effect-item.is) (each_place (EffectWithin z.facts) es i e c.requires.placed.within lt);
    }

pub note-requires-clause-number : goal.note-requires-clause-number
note-requires-clause-number c =
    number_fits c.loop-effect.number c.args.layout.now.conditional c.args.effects.now c.loop-effect.effect-index c.effect-item.result c.effect-item.result c.loop-effect.invariant.0 c.loop-effect-test.true c.effect-item.is

pub number_after-number-requires : goal.number_after-number-requires
number_after-number-requires c = let h = c.loop-effect.invariant.0 in let f = c.requires.placed.few in omega (arith, h, f)

pub returns : goal.returns
returns c =
    let z = c.args.layout.now in
    let a = c.args.action in
    let es = c.args.effects.now in
    sym (c.loop-effect.invariant.1
    ∙ ap (λ (ds : List Effect). c.loop-effect.clauses ++ coded (effects_of z (rows_of a c.args.first es) (rows_of a c.loop-effect.number ds))) (drop_all c.loop-effect.effect-index es c.loop-effect-test.false)
    ∙ append-nil c.loop-effect.clauses)
