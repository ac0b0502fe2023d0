use Rattle.std.proofs.Common.{◌∙◌, ap, sym, subst, List, Bool}
use Rattle.gt_core.specs.Literal.{state_of}
use Rattle.gt_core.specs.Execution.{IsGoal}
use Rattle.state_store.specs.Packed.{unpacked}
use Rattle.state_store.specs.Store.{Stored}
use Rattle.state_search.specs.own.Walk.{HasNoGoal}
use Rattle.state_search.proofs.ClosingLaw.{goal_offered, none_offered}
use Rattle.state_search.proofs.follow.follow_all.Goals.{in-Entered+else-is_goal+in_ok-entered-in-Entered, in-Unable, in-Known}
use Rattle.state_search.proofs.follow.follow_all.Goals as goal

pub plan_of-requires : goal.plan_of-requires
plan_of-requires g c =
    let row = ap (unpacked c.args.task.now.facts) c.deref.ensures.value in
    goal_offered c.args.task.now c.offered.new.store c.loop-turn.store.states (unpacked c.args.task.now.facts c.offered.new.after.items) c.offered.ensures.walk c.in-Entered.ensures.offered.0
    (subst (λ (s : List Bool). IsGoal c.args.task.now (state_of s)) row (c.is_goal.ensures.goal c.if-is_goal.true))

pub loop-turn-preserved : goal.loop-turn-preserved
loop-turn-preserved g c =
    let inv = c.loop-turn.invariant in
    let before = c.offered.ensures.before ∙ inv.before in
    let after = c.offered.ensures.after ∙ inv.after in
    elim c.match-offered.branch [
      | in-Entered+else-is_goal+in_ok-entered-in-Entered w ↦
          let off = w.in-Entered.ensures.offered in
          record {
            walk = c.offered.ensures.walk;
            no_goal = none_offered c.args.task.now c.offered.new.store.states c.loop-turn.store.states (unpacked c.args.task.now.facts c.offered.new.after.items) inv.no_goal off.0
                (λ goal. w.is_goal.ensures.none w.if-is_goal.false (subst (λ (s : List Bool). IsGoal c.args.task.now (state_of s)) (sym (ap (unpacked c.args.task.now.facts) w.deref.ensures.value)) goal));
            most = off.1 ∙ inv.most;
            room = off.2 ∙ inv.room;
            before = before;
            after = after;
          }
      | in-Unable w ↦
          let same = w.in-Unable.ensures.offered in
          record {
            walk = c.offered.ensures.walk;
            no_goal = subst (λ (st : Stored). HasNoGoal c.args.task.now st.states) (sym same) inv.no_goal;
            most = ap (λ (st : Stored). st.most) same ∙ inv.most;
            room = ap (λ (st : Stored). st.room) same ∙ inv.room;
            before = before;
            after = after;
          }
      | in-Known w ↦
          let same = w.in-Known.ensures.offered in
          record {
            walk = c.offered.ensures.walk;
            no_goal = subst (λ (st : Stored). HasNoGoal c.args.task.now st.states) (sym same) inv.no_goal;
            most = ap (λ (st : Stored). st.most) same ∙ inv.most;
            room = ap (λ (st : Stored). st.room) same ∙ inv.room;
            before = before;
            after = after;
          }
    ]
