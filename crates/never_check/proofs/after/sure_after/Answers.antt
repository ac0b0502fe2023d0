use Rattle.std.proofs.Common.{◌≡◌, ◌==◌, ◌+◌, ◌++◌, ◌∷◌, ℕ, List, [], take, ap, sym, ◌∙◌, subst, true, inl, inr}
use Rattle.std.specs.List.{AllByRecursion}
use Rattle.std.proofs.lemmas.List.{take_more, take_all}
use Rattle.gt_core.specs.Literal.{is_in}
use Rattle.gt_core.specs.Task.{Effect}
use Rattle.gt_core.proofs.published.Basics.{passing, each_at, test_same}
use Rattle.never_defs.specs.After.{holds_surely}
use Rattle.never_check.proofs.Beginning.{each_push, each_map}
use Rattle.never_check.proofs.Surely.{sure_from}
use Rattle.never_check.proofs.after.sure_after.Goals as goal

pub loop-effect-preserved : goal.loop-effect-preserved
loop-effect-preserved c =
    let items = c.effects-effect-items.result.now in
    let x = c.args.act.now in
    let set = is_in c.args.trail.now.literals in
    let put = c.in_ok-put_sure.ensures in
    let new = c.put_sure.new.sure.items in
    let next : take (c.loop-effect.effect-index + 1) items ≡ take c.loop-effect.effect-index items ++ c.effect-item.result ∷ [] =
    take_more items c.loop-effect.effect-index c.effect-item.result c.loop-effect-test.true ∙ ap (λ (e : Effect). take c.loop-effect.effect-index items ++ e ∷ []) (sym c.effect-item.is) in
    record {
      sure = put.sure;
      old = λ m i h. put.more m (c.loop-effect.invariant.old m i h);
      all =
          subst (λ (es : List Effect). AllByRecursion (λ e. holds_surely set x e.literal ≡ true → is_in new e.literal ≡ true) es) (sym next)
          (each_push (λ (e : Effect). holds_surely set x e.literal ≡ true → is_in new e.literal ≡ true) (take c.loop-effect.effect-index items) c.effect-item.result
          (each_map (λ (e : Effect). holds_surely set x e.literal ≡ true → is_in c.loop-effect.sure.items e.literal ≡ true) (λ (e : Effect). holds_surely set x e.literal ≡ true → is_in new e.literal ≡ true) (take c.loop-effect.effect-index items) (λ e there h. put.more e.literal (there h)) c.loop-effect.invariant.all)
          (subst (λ (l : ℕ). holds_surely set x l ≡ true → is_in new l ≡ true) c.lit.ensures put.one));
    }

pub returns-clause-all : goal.returns-clause-all
returns-clause-all c =
    let items = c.effects-effect-items.result.now in
    let x = c.args.act.now in
    let set = is_in c.args.trail.now.literals in
    let sure = c.loop-effect.sure.items in
    let all = subst (λ (es : List Effect). AllByRecursion (λ e. holds_surely set x e.literal ≡ true → is_in sure e.literal ≡ true) es) (take_all c.loop-effect.effect-index items c.loop-effect-test.false ∙ c.effects-effect-items.ensures) c.loop-effect.invariant.all in
    λ m h. elim (sure_from set x m h) [
      | inl i ↦ c.loop-effect.invariant.old m i h
      | inr e ↦
          let p = passing (λ (d : Effect). d.literal == m) x.effects e in
          let same : p.one.literal ≡ m = test_same _ _ p.passes in
          subst (λ (l : ℕ). holds_surely set x l ≡ true → is_in sure l ≡ true) same (each_at (λ (d : Effect). holds_surely set x d.literal ≡ true → is_in sure d.literal ≡ true) x.effects p.one all p.among) h
    ]
