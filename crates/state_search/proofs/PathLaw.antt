-- The actions up from a stored state.
use Rattle.std.proofs.Common.{arith, ◌≡◌, ℕ, zero, suc, ◌+◌, ◌<◌, List, [], ◌∷◌, ◌++◌, Bool, true, length, reverse, refl, sym, ◌∙◌, subst, Some}
use Rattle.std.specs.Prelude.{slice_get, slice_index}
use Rattle.std.proofs.lemmas.List.{reverse-append}
use Rattle.gt_core.specs.Literal.{state_of}
use Rattle.gt_core.specs.Task.{Task}
use Rattle.gt_core.specs.Lawful.{is_task}
use Rattle.gt_core.specs.Execution.{Runs, run, next_of_one, next_values}
use Rattle.gt_core.specs.Laws.{IsRunToGoal}
use Rattle.gt_core.proofs.published.SequenceLaw.{Agree, run_agrees}
use Rattle.state_store.specs.Store.{Stored}
use Rattle.search_laws.specs.Tree.{IsAfter}
use Rattle.search_laws.proofs.published.SearchLaw.{next_agrees, goal_too}
use Rattle.state_search.specs.own.Walk.{IsWalk}
use Rattle.state_search.specs.own.Path.{RunsToGoal}
use Rattle.state_search.specs.own.Breadth.{AreFrom}

flip : (task : Task) (s u : ℕ → Bool) → Agree task s u → Agree task u s
flip task s u h f lt = sym (h f lt)

-- one action before those that lead to the goal
pub before : (task : Task) → is_task task ≡ true → (s : ℕ → Bool) (a : ℕ) (rest : List ℕ) → Runs task s a → RunsToGoal task (state_of (next_values task s a)) rest → RunsToGoal task s (a ∷ rest)
before task is s a rest runs to =
    let same = next_agrees task is s a in
    let moved = run_agrees task is rest (state_of (next_values task s a)) (next_of_one task s a) same to.runs in
    record {
      runs = (runs, moved.0);
      reaches = goal_too task is (run task (next_of_one task s a) rest) (run task (state_of (next_values task s a)) rest) (flip task _ _ moved.1) to.reaches;
    }

-- a state that is stored at a place
pub stored : (states : List (List Bool)) (k : ℕ) → k < length states → (s : List Bool) × (slice_get states k ≡ Some s)
stored [] k lt = absurd (omega (arith, lt))
stored (s ∷ states) zero lt = (s, refl)
stored (s ∷ states) (suc k) lt = stored states k (omega (arith, lt))

module _ (task : Task) (st : Stored) (walk : IsWalk task st) where
  -- where a state that is not the first comes from
  pub from : (k : ℕ) → 0 < k → k < length st.states → (s : List Bool) × (slice_get st.states k ≡ Some s) × IsAfter task st.states k (slice_index st.parents k) (slice_index st.actions k) s
  from zero some lt = absurd (omega (arith, some))
  from (suc k) some lt = let there = stored st.states (suc k) lt in (there.0, there.1, walk.tree.next k there.0 there.1)

  pub up : (is : is_task task ≡ true) (k : ℕ) (taken : List ℕ) → 0 < k → k < length st.states
      → ((s : List Bool) → slice_get st.states k ≡ Some s → RunsToGoal task (state_of s) (reverse taken))
      → (s : List Bool) → slice_get st.states (slice_index st.parents k) ≡ Some s → RunsToGoal task (state_of s) (reverse (taken ++ slice_index st.actions k ∷ []))
  up is k taken some lt on s at =
      let here = from k some lt in
      let after = here.2 in
      let e : after.source ≡ s = let o : Some after.source ≡ Some s = sym after.is ∙ at in cc in
      let to = subst (λ (t : List Bool). RunsToGoal task (state_of t) (reverse taken)) after.leads (on here.0 here.1) in
      let all = before task is (state_of after.source) (slice_index st.actions k) (reverse taken) after.runs to in
      subst (RunsToGoal task (state_of s)) (sym (reverse-append taken (slice_index st.actions k ∷ [])))
      (subst (λ (t : List Bool). RunsToGoal task (state_of t) (slice_index st.actions k ∷ reverse taken)) e all)

  pub start : (taken : List ℕ) → ((s : List Bool) → slice_get st.states 0 ≡ Some s → RunsToGoal task (state_of s) taken) → IsRunToGoal task taken
  start taken on = let to = on task.initial walk.tree.first in record { runs = to.runs; reaches = to.reaches }

pub deeper : (parents depths : List ℕ) (k : ℕ) → AreFrom parents depths → 0 < k → k < length parents → slice_index depths k ≡ slice_index depths (slice_index parents k) + 1
deeper parents depths zero from some lt = absurd (omega (arith, some))
deeper parents depths (suc k) from some lt = from.next k lt
