use Rattle.std.proofs.Common.{arith, ◌≡◌, ◌/◌, ◌<◌, ◌∙◌, sym, subst}
use Rattle.std.specs.List.{AllByRecursion}
use Rattle.successors.proofs.MovesLaw.{noted_more, noted_within}
use Rattle.successors.proofs.moves.gather.Goals as goal

pub loop-effect-preserved : goal.loop-effect-preserved
loop-effect-preserved c =
    let e = c.effect-item.result in
    let inv = c.loop-effect.invariant in
    let few : e.literal / 2 < c.args.facts = let lt = c.if-lit-facts.false in omega (arith, lt, c.lit.ensures) in
    let none = sym c.is_conditional.ensures ∙ c.if-is_conditional.false in
    record {
      deleted_within = subst (AllByRecursion (λ f. f < c.args.facts)) (sym c.in_ok-note.ensures) (noted_within c.args.facts 1 e c.loop-effect.deletes.items inv.deleted_within few);
      deleted = noted_more 1 c.args.effects.now c.loop-effect.effect-index e c.loop-effect.deletes.items _ none (omega arith) c.loop-effect-test.true c.effect-item.is c.in_ok-note.ensures inv.deleted;
      added_within = subst (AllByRecursion (λ f. f < c.args.facts)) (sym c.in_ok-note-2.ensures) (noted_within c.args.facts 0 e c.loop-effect.adds.items inv.added_within few);
      added = noted_more 0 c.args.effects.now c.loop-effect.effect-index e c.loop-effect.adds.items _ none (omega arith) c.loop-effect-test.true c.effect-item.is c.in_ok-note-2.ensures inv.added;
    }
