use Rattle.std.proofs.Common.{arith, ◌≡◌, ◌*◌, ◌+◌, ℕ, List, [], ◌∷◌, ◌++◌, length, refl, sym, ap, ◌∙◌, subst}
use Rattle.std.proofs.lemmas.List.{length_push}
use Rattle.gt_core.specs.Task.{Effect, Action}
use Rattle.action_order.specs.own.Graph.{row_at}
use Rattle.action_order.specs.own.Readers.{act_at}
use Rattle.action_order.specs.own.Sure.{IsSure, AreMade}
use Rattle.action_order.proofs.ReadersLaw.{effects_below, act_is, within_at}
use Rattle.gt_core.proofs.published.Lists.{pushed_each}
use Rattle.action_order.proofs.sure.all_sure.Goals as goal

pub sure_literals-requires : goal.sure_literals-requires
sure_literals-requires c =
    let w = within_at c.args.facts c.args.acts.now c.loop-act.act-index c.act-item.result c.requires.within c.loop-act-test.true c.act-item.is in
    record {
      made = subst (λ (es : List Effect). AreMade c.collect_literals.new.made es) (c.effects.ensures ∙ sym c.effects-in-loop-act.ensures) c.in_ok-collect_literals.ensures;
      within = rw c.effects-in-loop-act.ensures (effects_below c.args.facts (2 * c.args.facts) c.act-item.result.effects w.effects refl);
    }

pub loop-act-preserved : goal.loop-act-preserved
loop-act-preserved c =
    let i = c.loop-act.act-index in
    let acts = c.args.acts.now in
    let sure = c.in_ok-sure_literals.field-0 in
    let act = act_is acts i c.act-item.result c.loop-act-test.true c.act-item.is in
    let one : IsSure (2 * c.args.facts) c.act-item.result.effects sure = rw c.effects-in-loop-act.ensures at c.in_ok-sure_literals.ensures in
    let two : IsSure (2 * c.args.facts) (act_at acts i).effects sure = subst (λ (x : Action). IsSure (2 * c.args.facts) x.effects sure) act one in
    let pushed : c.push.new.self.items ≡ c.loop-act.all.items ++ sure ∷ [] = c.in_ok-push.ensures.items in
    record {
      long = ap length pushed ∙ length_push c.loop-act.all.items sure ∙ ap (λ (n : ℕ). n + 1) c.loop-act.invariant.long;
      each = λ a lt. subst (λ (all : List (List ℕ)). IsSure (2 * c.args.facts) (act_at acts a).effects (row_at all a)) (sym pushed) (pushed_each (λ k. IsSure (2 * c.args.facts) (act_at acts k).effects) c.loop-act.all.items sure i c.loop-act.invariant.long c.loop-act.invariant.each two a lt);
    }

pub returns : goal.returns
returns c = record {
  long = let l = c.loop-act.invariant.long in let e = c.loop-act-test.false in let a = c.loop-act.auto.act-index-end in omega arith;
  each = λ a lt. c.loop-act.invariant.each a (let e = c.loop-act-test.false in omega arith);
}
