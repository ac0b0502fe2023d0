use Rattle.std.proofs.Common.{arith, ◌≡◌, ◌++◌, ◌∷◌, [], ◌∙◌, ℕ, List, ap, sym, subst, length, length-append, reverse}
use Rattle.std.specs.Prelude.{slice_get, slice_index}
use Rattle.gt_core.specs.Literal.{state_of}
use Rattle.gt_core.specs.Laws.{IsRunToGoal}
use Rattle.state_search.specs.own.Path.{RunsToGoal}
use Rattle.state_search.proofs.PathLaw.{from, up, start, deeper}
use Rattle.state_search.proofs.path.path_to.Goals as goal

pub loop-at-init : goal.loop-at-init
loop-at-init c = record {
  within = c.requires.number;
  runs = λ s at. subst (λ (xs : List ℕ). RunsToGoal c.args.task.now (state_of s) (reverse xs)) (sym c.new-actions.ensures.items) (record { runs = tt; reaches = c.requires.goal s at });
  long = λ depths is. let none = ap (λ (xs : List ℕ). length xs) c.new-actions.ensures.items in omega (arith, none);
}

pub loop-at-smaller : goal.loop-at-smaller
loop-at-smaller c =
    let earlier = (from c.args.task.now c.args.store.now c.requires.walk c.loop-at.at c.loop-at-test.true c.loop-at.invariant.within).2.earlier in
    omega (arith, earlier, c.parent-at.ensures)

pub loop-at-preserved : goal.loop-at-preserved
loop-at-preserved c =
    let earlier = (from c.args.task.now c.args.store.now c.requires.walk c.loop-at.at c.loop-at-test.true c.loop-at.invariant.within).2.earlier in
    let within = c.loop-at.invariant.within in
    let taken : c.push.new.self.items ≡ c.loop-at.actions.items ++ slice_index c.args.store.now.actions c.loop-at.at ∷ [] = c.in_ok-push.ensures.items ∙ ap (λ (a : ℕ). c.loop-at.actions.items ++ a ∷ []) c.action.ensures in
    let more = ap (λ (xs : List ℕ). length xs) taken ∙ length-append c.loop-at.actions.items (slice_index c.args.store.now.actions c.loop-at.at ∷ []) in
    record {
      within = omega (arith, earlier, within, c.parent-at.ensures);
      runs = λ s at. subst (λ (xs : List ℕ). RunsToGoal c.args.task.now (state_of s) (reverse xs)) (sym taken)
          (up c.args.task.now c.args.store.now c.requires.walk c.facts-facts.ensures.lawful c.loop-at.at c.loop-at.actions.items c.loop-at-test.true within c.loop-at.invariant.runs s (ap (slice_get c.args.store.now.states) (sym c.parent-at.ensures) ∙ at));
      long = λ depths is. (
          let old = c.loop-at.invariant.long depths is in
          let deep = deeper c.args.store.now.parents depths c.loop-at.at is c.loop-at-test.true (omega (arith, within, c.requires.walk.parents)) in
          let same = ap (slice_index depths) c.parent-at.ensures in
          omega (arith, old, deep, same, more)
          );
    }

pub returns-clause-runs : goal.returns-clause-runs
returns-clause-runs c =
    let zero : c.loop-at.at ≡ 0 = omega (arith, c.loop-at-test.false) in
    let all : c.of.result ≡ reverse c.loop-at.actions.items = c.of.ensures ∙ c.reverse.ensures.items in
    subst (IsRunToGoal c.args.task.now) (sym all)
    (start c.args.task.now c.args.store.now c.requires.walk (reverse c.loop-at.actions.items) (λ s at. c.loop-at.invariant.runs s (ap (slice_get c.args.store.now.states) zero ∙ at)))
