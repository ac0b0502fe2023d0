use Rattle.std.proofs.Common.{arith, ◌∙◌, ◌<◌, ◌*◌, ℕ, List, sym, subst}
use Rattle.std.specs.List.{AllByRecursion}
use Rattle.never_text.specs.Laws.{IsAsRead}
use Rattle.never_search.proofs.SetLaw.{few_more, over_more}
use Rattle.never_search.proofs.set.clauses_of.Goals as goal

pub loop-layer-preserved : goal.loop-layer-preserved
loop-layer-preserved c =
    let is = c.in_ok-push.ensures.ok in
    let below = subst (λ (ls : List ℕ). AllByRecursion (λ l. l < 2 * c.args.facts) ls) (sym c.deref-in-loop-layer.ensures.value) c.in_ok-sort.ensures.below in
    let sorted = c.laws.ensures.sorted c.args.facts c.deref.result.now (omega (arith, c.requires)) in
    let read = subst (IsAsRead c.args.facts) (sym (c.deref-in-loop-layer.ensures.value ∙ c.in_ok-sort.ensures.sorted)) sorted in
    record {
      few = few_more c.loop-layer.layer-index c.loop-layer.clauses c.push.new.self c.deref-in-loop-layer.result.now is c.loop-layer.invariant.few;
      over = over_more (AllByRecursion (λ l. l < 2 * c.args.facts)) c.loop-layer.clauses c.push.new.self c.deref-in-loop-layer.result.now is c.loop-layer.invariant.over below;
      as_read = over_more (IsAsRead c.args.facts) c.loop-layer.clauses c.push.new.self c.deref-in-loop-layer.result.now is c.loop-layer.invariant.as_read read;
    }
