use Rattle.std.proofs.Common.{◌≡◌, ◌+◌, ◌∙◌, List, Bool, ap, sym, subst, inl}
use Rattle.std.specs.Prelude.{slice_get}
use Rattle.gt_core.specs.Literal.{state_of}
use Rattle.gt_core.specs.Execution.{IsGoal, next_values}
use Rattle.state_store.specs.Packed.{unpacked}
use Rattle.successors.specs.Trie.{IsBefore}
use Rattle.successors.proofs.published.SkipLaw.{before_more, before_less}
use Rattle.state_search.specs.own.Breadth.{IsFound}
use Rattle.state_search.proofs.WalkLaw.{at_entered}
use Rattle.state_search.proofs.BreadthLaw.{found, kept_unable, kept_known, kept_entered, breadth_skipped}
use Rattle.state_search.proofs.ClosingLaw.{closing_unable, closing_known, closing_entered, closing_found, closing_skipped}
use Rattle.state_search.proofs.sweep.sweep_part.Goals.{in-Entered+else-is_goal, in-Unable, in-Known}
use Rattle.state_search.proofs.sweep.sweep_part.Goals as goal

pub returns-then-is_goal-clause-closing : goal.returns-then-is_goal-clause-closing
returns-then-is_goal-clause-closing c =
    let inv = c.loop-place.invariant in
    let task = c.args.task.now in
    let source = unpacked task.facts c.args.before.now in
    let acts = c.args.ways.now.trie.acts in
    let tried = IsBefore acts c.loop-place.place in
    let more = IsBefore acts (c.loop-place.place + 1) in
    let one = before_more acts c.loop-place.place c.act.result c.act.ensures in
    let after : unpacked task.facts c.propose.new.after.items ≡ next_values task (state_of source) c.act.result = c.propose.ensures.after c.in-Entered.is in
    let row = ap (unpacked task.facts) c.deref.ensures.value ∙ after in
    let to : IsGoal task (state_of (next_values task (state_of source) c.act.result)) = subst (λ (s : List Bool). IsGoal task (state_of s)) row (c.is_goal.ensures.goal c.if-is_goal.true) in
    closing_found task c.loop-place.store c.args.number c.act.result tried more one source inv.closing inv.at c.in-Entered.ensures.proposed.0 c.propose.new.store c.in-Entered.ensures.proposed.1 to

pub returns-then-is_goal-clause-breadth : goal.returns-then-is_goal-clause-breadth
returns-then-is_goal-clause-breadth c =
    let inv = c.loop-place.invariant in
    let task = c.args.task.now in
    let source = unpacked task.facts c.args.before.now in
    let acts = c.args.ways.now.trie.acts in
    let tried = IsBefore acts c.loop-place.place in
    let more = IsBefore acts (c.loop-place.place + 1) in
    let one = before_more acts c.loop-place.place c.act.result c.act.ensures in
    let after : unpacked task.facts c.propose.new.after.items ≡ next_values task (state_of source) c.act.result = c.propose.ensures.after c.in-Entered.is in
    let row = ap (unpacked task.facts) c.deref.ensures.value ∙ after in
    let to : IsGoal task (state_of (next_values task (state_of source) c.act.result)) = subst (λ (s : List Bool). IsGoal task (state_of s)) row (c.is_goal.ensures.goal c.if-is_goal.true) in
    λ breadth. subst (IsFound task) (sym c.in-Entered.ensures.proposed.1)
    (found task c.loop-place.store c.args.number c.act.result tried more one source (inv.breadth breadth) inv.at c.in-Entered.ensures.proposed.0 to)

pub loop-place-preserved : goal.loop-place-preserved
loop-place-preserved c =
    let inv = c.loop-place.invariant in
    let task = c.args.task.now in
    let source = unpacked task.facts c.args.before.now in
    let acts = c.args.ways.now.trie.acts in
    let tried = IsBefore acts c.loop-place.place in
    let more = IsBefore acts (c.loop-place.place + 1) in
    let one = before_more acts c.loop-place.place c.act.result c.act.ensures in
    let long = c.propose.ensures.long ∙ inv.after in
    elim c.match-propose.branch [
      | in-Entered+else-is_goal w ↦
          let after : unpacked task.facts c.propose.new.after.items ≡ next_values task (state_of source) c.act.result = c.propose.ensures.after w.in-Entered.is in
          let row = ap (unpacked task.facts) w.deref.ensures.value ∙ after in
          let not : IsGoal task (state_of (next_values task (state_of source) c.act.result)) → ⊥ =
          λ goal. w.is_goal.ensures.none w.if-is_goal.false (subst (λ (s : List Bool). IsGoal task (state_of s)) (sym row) goal) in
          let kept = w.in-Entered.ensures.proposed in
          record {
            closing = closing_entered task c.loop-place.store c.args.number c.act.result tried more one source inv.closing inv.at kept.0 c.propose.new.store kept.1 not;
            breadth = λ breadth. (kept_entered task c.loop-place.store c.args.number c.act.result tried more one source (inv.breadth breadth) inv.at c.propose.new.store kept.0 kept.1 not).0;
            at = at_entered task c.loop-place.store c.args.number c.act.result source inv.at c.propose.new.store kept.1;
            most = ap (λ st. st.most) kept.1 ∙ inv.most;
            room = ap (λ st. st.room) kept.1 ∙ inv.room;
            after = long;
          }
      | in-Unable w ↦
          let kept = w.in-Unable.ensures.proposed in
          record {
            closing = closing_unable task c.loop-place.store c.args.number c.act.result tried more one source inv.closing inv.at c.propose.new.store kept.0 kept.1;
            breadth = λ breadth. (kept_unable task c.loop-place.store c.args.number c.act.result tried more one source (inv.breadth breadth) inv.at c.propose.new.store kept.0 kept.1).0;
            at = ap (λ st. slice_get st.states c.args.number) kept.0 ∙ inv.at;
            most = ap (λ st. st.most) kept.0 ∙ inv.most;
            room = ap (λ st. st.room) kept.0 ∙ inv.room;
            after = long;
          }
      | in-Known w ↦
          let kept = w.in-Known.ensures.proposed in
          record {
            closing = closing_known task c.loop-place.store c.args.number c.act.result tried more one source inv.closing inv.at c.propose.new.store kept.0 kept.1;
            breadth = λ breadth. (kept_known task c.loop-place.store c.args.number c.act.result tried more one source (inv.breadth breadth) inv.at c.propose.new.store kept.0 kept.1).0;
            at = ap (λ st. slice_get st.states c.args.number) kept.0 ∙ inv.at;
            most = ap (λ st. st.most) kept.0 ∙ inv.most;
            room = ap (λ st. st.room) kept.0 ∙ inv.room;
            after = long;
          }
    ]

pub returns-clause-closing : goal.returns-clause-closing
returns-clause-closing c =
    let inv = c.loop-place.invariant in
    let acts = c.args.ways.now.trie.acts in
    closing_skipped c.args.task.now c.loop-place.store c.args.number (IsBefore acts c.loop-place.place) inv.closing (IsBefore acts c.args.to) (unpacked c.args.task.now.facts c.args.before.now) inv.at
    (λ a b. inl (before_less acts c.args.to c.loop-place.place c.loop-place-test.false a b))

pub returns-clause-breadth : goal.returns-clause-breadth
returns-clause-breadth c =
    let inv = c.loop-place.invariant in
    let acts = c.args.ways.now.trie.acts in
    λ breadth. breadth_skipped c.args.task.now c.loop-place.store c.args.number (IsBefore acts c.loop-place.place) (unpacked c.args.task.now.facts c.args.before.now) (inv.breadth breadth) inv.at (IsBefore acts c.args.to)
    (λ a b. inl (before_less acts c.args.to c.loop-place.place c.loop-place-test.false a b))

pub returns-then-is_goal-clause-at : goal.returns-then-is_goal-clause-at
returns-then-is_goal-clause-at c =
    at_entered c.args.task.now c.loop-place.store c.args.number c.act.result (unpacked c.args.task.now.facts c.args.before.now) c.loop-place.invariant.at c.propose.new.store c.in-Entered.ensures.proposed.1
