-- What an action in the state that is swept does to what is closed.
use Rattle.std.proofs.Common.{arith, ◌≡◌, ℕ, ◌+◌, ◌<◌, ◌≤◌, List, [], ◌∷◌, ◌++◌, Bool, length, length-append, sym, ap, ◌∙◌, subst, Some, ◌⊎◌, inl, inr}
use Rattle.std.specs.Prelude.{slice_get}
use Rattle.std.proofs.lemmas.Option.{slice_get_within}
use Rattle.gt_core.specs.Literal.{state_of}
use Rattle.gt_core.specs.Task.{Task}
use Rattle.gt_core.specs.Execution.{Runs, IsGoal, next_values}
use Rattle.state_store.specs.Store.{Stored, with_state}
use Rattle.state_store.proofs.published.PushedLaw.{pushed_at, pushed_before, pushed_last}
use Rattle.search_laws.specs.Search.{IsListed, IsClosedList}
use Rattle.state_search.specs.own.Walk.{IsWalk, HasNoGoal, IsPassed, none_tried}
use Rattle.state_search.specs.own.Closing.{IsClosing, IsGoalLast}
use Rattle.state_search.specs.own.Breadth.{IsBreadth}
use Rattle.state_search.proofs.WalkLaw.{walk_push, one_more, same_state, earlier_passed, passed_skipped}

-- what is listed is listed in a longer list
listed_more : (states : List (List Bool)) (new s : List Bool) → IsListed states s → IsListed (states ++ new ∷ []) s
listed_more states new s listed = (listed.0, pushed_before states new s listed.0 listed.1)

-- a goal that was entered last
pub goal_last : (task : Task) (st : Stored) (new : List Bool) (parent act : ℕ) → IsWalk task (with_state st new parent act) → IsGoal task (state_of new) → IsGoalLast task (with_state st new parent act)
goal_last task st new parent act walk goal = record {
  walk = walk;
  last = length st.states;
  is_last = (let l = length-append st.states (new ∷ []) in omega (arith, l));
  state = new;
  at = pushed_last st.states new;
  goal = goal;
}

-- no goal is among the states where the new one is none
pub no_goal_more : (task : Task) (states : List (List Bool)) (new : List Bool) → HasNoGoal task states → (IsGoal task (state_of new) → ⊥) → HasNoGoal task (states ++ new ∷ [])
no_goal_more task states new none not k s there goal =
    elim (pushed_at states new s k there) [ inl old ↦ none k s old goal | inr last ↦ not (subst (λ (t : List Bool). IsGoal task (state_of t)) last.1 goal) ]

module _ (task : Task) (st : Stored) (number act : ℕ) (tried more : ℕ → Type 0) (one : (a : ℕ) → more a → tried a ⊎ (a ≡ act)) (source : List Bool) (closing : IsClosing task st number tried) (at : slice_get st.states number ≡ Some source) where
  abbrev new : List Bool
  new = next_values task (state_of source) act

  -- the action in the state, where another pair of these is the same
  own : (states : List (List Bool)) (k a : ℕ) (s : List Bool) → k ≡ number → a ≡ act → slice_get st.states k ≡ Some s → Runs task (state_of s) a → (Runs task (state_of source) act → IsListed states new) → IsListed states (next_values task (state_of s) a)
  own states k a s k_is a_is there runs leads =
      let e : source ≡ s = same_state st.states number source s at (ap (slice_get st.states) (sym k_is) ∙ there) in
      let can : Runs task (state_of source) act = subst (λ (t : List Bool). Runs task (state_of t) act) (sym e) (subst (λ (b : ℕ). Runs task (state_of s) b) a_is runs) in
      subst (λ (b : ℕ). IsListed states (next_values task (state_of s) b)) (sym a_is)
      (subst (λ (t : List Bool). IsListed states (next_values task (state_of t) act)) e (leads can))

  with_leads : (Runs task (state_of source) act → IsListed st.states new) → IsClosing task st number more
  with_leads leads = record {
    walk = closing.walk;
    closed = λ k s a is there runs. elim (one_more number act tried more one k a is) [ inl before ↦ closing.closed k s a before there runs | inr h ↦ own st.states k a s h.0 h.1 there runs leads ];
    no_goal = closing.no_goal;
  }

  abbrev Kept : Stored → Type 0
  Kept after = IsClosing task after number more

  pub closing_unable : (after : Stored) → after ≡ st → (Runs task (state_of source) act → ⊥) → Kept after
  closing_unable after same not = subst Kept (sym same) (with_leads (λ runs. absurd (not runs)))

  pub closing_known : (after : Stored) → after ≡ st → IsListed st.states new → Kept after
  closing_known after same listed = subst Kept (sym same) (with_leads (λ runs. listed))

  module _ (runs : Runs task (state_of source) act) where
    abbrev now : Stored
    now = with_state st new number act

    before : (k a : ℕ) → IsPassed number more k a → k < length st.states
    before k a (inl lt) = let b = slice_get_within st.states number source at in omega (arith, lt, b)
    before k a (inr h) = let e = h.0 in let b = slice_get_within st.states number source at in omega (arith, e, b)

    closed_now : (k : ℕ) (s : List Bool) (a : ℕ) → IsPassed number more k a → slice_get now.states k ≡ Some s → Runs task (state_of s) a → IsListed now.states (next_values task (state_of s) a)
    closed_now k s a is there can = by (pushed_at st.states new s k there) (one_more number act tried more one k a is)
      where
        by : (slice_get st.states k ≡ Some s) ⊎ ((k ≡ length st.states) × (s ≡ new)) → IsPassed number tried k a ⊎ ((k ≡ number) × (a ≡ act)) → IsListed now.states (next_values task (state_of s) a)
        by (inr last) which = let e = last.0 in let lt = before k a is in absurd (omega (arith, e, lt))
        by (inl old) (inl passed) = listed_more st.states new (next_values task (state_of s) a) (closing.closed k s a passed old can)
        by (inl old) (inr h) = own now.states k a s h.0 h.1 old can (λ r. (length st.states, pushed_last st.states new))

    pub closing_entered : (after : Stored) → after ≡ now → (IsGoal task (state_of new) → ⊥) → Kept after
    closing_entered after same not =
        subst Kept (sym same) (record { walk = walk_push task st number act source closing.walk at runs; closed = closed_now; no_goal = no_goal_more task st.states new closing.no_goal not })

    pub closing_found : (after : Stored) → after ≡ now → IsGoal task (state_of new) → IsGoalLast task after
    closing_found after same goal = subst (IsGoalLast task) (sym same) (goal_last task st new number act (walk_push task st number act source closing.walk at runs) goal)

module _ (task : Task) (st : Stored) (number : ℕ) (tried : ℕ → Type 0) (closing : IsClosing task st number tried) where
  -- a state all of whose actions were tried
  pub closing_tried : ((a : ℕ) → a < length task.actions → tried a) → IsClosing task st (number + 1) none_tried
  closing_tried all = record {
    walk = closing.walk;
    closed = λ k s a is there runs. closing.closed k s a (earlier_passed number tried k a is (all a runs.action)) there runs;
    no_goal = closing.no_goal;
  }

  -- actions that cannot run in the state that is swept are as good as tried
  pub closing_skipped : (more : ℕ → Type 0) (source : List Bool) → slice_get st.states number ≡ Some source → ((a : ℕ) → more a → tried a ⊎ (Runs task (state_of source) a → ⊥)) → IsClosing task st number more
  closing_skipped more source at which = record {
    walk = closing.walk;
    closed = λ k s a is there runs. closing.closed k s a (passed_skipped task st number tried more source at which k s a is there runs) there runs;
    no_goal = closing.no_goal;
  }

-- all states swept: a closed list
pub closed_list : (task : Task) (st : Stored) (number : ℕ) → IsClosing task st number none_tried → length st.states ≤ number → IsClosedList task st.states
closed_list task st number closing all = record {
  initial = (0, closing.walk.tree.first);
  next = λ s a listed runs. (let lt = slice_get_within st.states listed.0 s listed.1 in closing.closed listed.0 s a (inl (omega (arith, lt, all))) listed.1 runs);
  no_goal = λ s listed goal. closing.no_goal listed.0 s listed.1 goal;
}

-- nothing swept so far
pub closing_begins : (task : Task) (st : Stored) → IsWalk task st → HasNoGoal task st.states → IsClosing task st 0 none_tried
closing_begins task st walk none = record { walk = walk; closed = λ k s a is there runs. absurd (nothing k a is); no_goal = none }
  where
    nothing : (k a : ℕ) → IsPassed 0 none_tried k a → ⊥
    nothing k a (inl lt) = omega (arith, lt)
    nothing k a (inr h) = h.1

-- what is closed breadth first is closed
pub closing_of : (task : Task) (st : Stored) (number : ℕ) (tried : ℕ → Type 0) → IsBreadth task st number tried → IsClosing task st number tried
closing_of task st number tried breadth = record {
  walk = breadth.walk;
  closed = λ k s a is there runs. (let leads = breadth.closed k s a is there runs in (leads.0, leads.1));
  no_goal = breadth.no_goal;
}

-- the same of a state that a proposal led to
pub goal_offered : (task : Task) (st : Stored) (old : List (List Bool)) (after : List Bool) → IsWalk task st → st.states ≡ old ++ after ∷ [] → IsGoal task (state_of after) → IsGoalLast task st
goal_offered task st old after walk is goal = record {
  walk = walk;
  last = length old;
  is_last = (let l = ap (λ (xs : List (List Bool)). length xs) is ∙ length-append old (after ∷ []) in omega (arith, l));
  state = after;
  at = ap (λ (xs : List (List Bool)). slice_get xs (length old)) is ∙ pushed_last old after;
  goal = goal;
}

pub none_offered : (task : Task) (states old : List (List Bool)) (after : List Bool) → HasNoGoal task old → states ≡ old ++ after ∷ [] → (IsGoal task (state_of after) → ⊥) → HasNoGoal task states
none_offered task states old after none is not = subst (HasNoGoal task) (sym is) (no_goal_more task old after none not)

-- no goal is in the initial state alone, where it is none
pub no_goal_first : (task : Task) (states : List (List Bool)) (s : List Bool) → states ≡ s ∷ [] → (IsGoal task (state_of s) → ⊥) → HasNoGoal task states
no_goal_first task states s is not = subst (HasNoGoal task) (sym is) (no_goal_more task [] s (λ k t there goal. absurd (cc)) not)
