use Rattle.std.proofs.Common.{arith, ◌/◌, ◌<◌, ◌∙◌, All, ap, sym, subst}
use Rattle.std.proofs.lemmas.List.Elements.{All-nil}
use Rattle.clause_base.specs.Told.{told_values}
use Rattle.clause_base.proofs.published.ToldLemmas.{length-told_from}
use Rattle.formula_defs.specs.Layout.{Layout, variables}
use Rattle.goal_choice.specs.own.Members.{Literals}
use Rattle.goal_choice.proofs.Kept.{begun}
use Rattle.goal_choice.proofs.told_walk.ToldWalk.new.Goals as goal

pub invariant_of-result : goal.invariant_of-result
invariant_of-result c =
    let m = c.args.means in
    let same = c.layout-2.view_is ∙ c.layout.ensures.layout in
    let facts = ap (λ (z : Layout). z.facts) same in
    let many = c.variables.ensures.variables ∙ ap (λ (z : Layout). variables z) c.layout.ensures.layout in
    let room = c.in_ok-own.ensures.capacity in
    let own = c.in_ok-own.own.items in
    let n = variables m.layout in
    record {
      walk = begun m (told_values n own) c.in_ok-wanted.wanted.items c.layout-2.inside.horizon c.layout-2.inside.facts c.index_mut.result.now c.put_all.new.self c.goal.result.now
          c.layout.ensures.kept (ap (λ (z : Layout). z.horizon) same) facts (length-told_from own 0 n) c.in_ok-wanted.ensures c.index_mut.ensures.value c.put_all.ensures c.goal.ensures.goal;
      below = subst (All (λ l. l / 2 < n)) (sym c.in_ok-own.ensures.items) (All-nil (λ l. l / 2 < n));
      room = omega (arith, many, room);
      before = ap (λ (s : Literals). s.facts) c.in_ok-before.ensures ∙ facts;
    }
