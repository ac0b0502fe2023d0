-- What is known where a walk ends.
use Rattle.std.proofs.Common.{arith, ◌≡◌, ℕ, ◌-◌, ◌≤◌, List, [], Bool, true, length, refl, sym, ap, ◌∙◌, subst, Some, inl, inr}
use Rattle.std.specs.Prelude.{slice_get, slice_index}
use Rattle.std.proofs.lemmas.Bool.{cases_lt, both_ways}
use Rattle.gt_core.specs.Literal.{state_of}
use Rattle.gt_core.specs.Task.{Task, initial_state}
use Rattle.gt_core.specs.Lawful.{is_task}
use Rattle.gt_core.specs.Execution.{IsGoal}
use Rattle.gt_core.specs.Laws.{IsRunToGoal, HasNoRun}
use Rattle.state_store.specs.Store.{Stored}
use Rattle.state_store.specs.Distinct.{AreDistinct}
use Rattle.search_laws.specs.Search.{ClosedListIsNoPlan, DepthsHaveNoShorter}
use Rattle.search_laws.specs.Tree.{TreeIsReached}
use Rattle.state_search.specs.Answer.{AreEntered, HasNoShorter}
use Rattle.state_search.specs.own.Walk.{IsWalk, none_tried}
use Rattle.state_search.specs.own.Breadth.{AreFrom, IsFound}
use Rattle.state_search.specs.own.Closing.{IsClosing, IsGoalLast}
use Rattle.state_search.proofs.WalkLaw.{same_state}
use Rattle.state_search.proofs.ClosingLaw.{closed_list}

-- the state that was entered last is a goal
pub last_goal : (task : Task) (st : Stored) (last : ℕ) → IsGoalLast task st → last ≡ length st.states - 1 → (s : List Bool) → slice_get st.states last ≡ Some s → IsGoal task (state_of s)
last_goal task st last found is s at =
    let e : last ≡ found.last = omega (arith, is, found.is_last) in
    subst (λ (t : List Bool). IsGoal task (state_of t)) (same_state st.states found.last found.state s found.at (ap (slice_get st.states) (sym e) ∙ at)) found.goal

-- no run to the goal is shorter than the plan to it
pub none_shorter : (task : Task) (st : Stored) (last n : ℕ) → is_task task ≡ true → DepthsHaveNoShorter → IsFound task st → last ≡ length st.states - 1 → ((depths : List ℕ) → AreFrom st.parents depths → n ≡ slice_index depths last) → HasNoShorter task n
none_shorter task st last n lawful law found is long ks run =
    let e : last ≡ found.last = omega (arith, is, found.is_last) in
    let same : n ≡ slice_index found.depths found.last = long found.depths found.from ∙ ap (slice_index found.depths) e in
    elim (cases_lt (length ks) n) [
      | inl less ↦ absurd (law task st.states found.depths (slice_index found.depths found.last) lawful found.layers ks (omega (arith, less, same)) run.runs run.reaches)
      | inr le ↦ le
    ]

-- where all states were swept no actions are a run to the goal
pub none_at_all : (task : Task) (st : Stored) (number : ℕ) → is_task task ≡ true → ClosedListIsNoPlan → IsClosing task st number none_tried → length st.states ≤ number → HasNoRun task
none_at_all task st number lawful law closing all ks run = law task st.states lawful (closed_list task st number closing all) ks run.runs run.reaches

pub none_hoped : (task : Task) → task.hopeless ≡ true → HasNoRun task
none_hoped task hopeless ks run = both_ways task.hopeless run.reaches.hopeful hopeless

-- the states of a walk are entered
pub entered_all : (task : Task) (st : Stored) (count : ℕ) → is_task task ≡ true → TreeIsReached → IsWalk task st → AreDistinct st.states → count ≡ length st.states → AreEntered task count
entered_all task st count lawful law walk distinct many = record {
  states = st.states;
  many = sym many;
  reached = law task st.states st.parents st.actions lawful walk.tree;
  distinct = distinct;
}

pub entered_none : (task : Task) → AreEntered task 0
entered_none task = record { states = []; many = refl; reached = λ k s at. absurd (cc); distinct = λ i j s at. absurd (cc) }

pub goal_at_once : (task : Task) (actions : List ℕ) → actions ≡ [] → IsGoal task (initial_state task) → IsRunToGoal task actions
goal_at_once task actions none goal = subst (IsRunToGoal task) (sym none) (record { runs = tt; reaches = goal })
