-- Breadth first: what an action in the state that is swept does to what is known.
use Rattle.std.proofs.Common.{arith, ◌≡◌, ℕ, suc, ◌+◌, ◌<◌, ◌≤◌, List, [], ◌∷◌, ◌++◌, Bool, length, length-append, refl, sym, ap, ◌∙◌, subst, Some, ◌⊎◌, inl, inr}
use Rattle.std.specs.Prelude.{slice_get, slice_index}
use Rattle.std.proofs.lemmas.Bool.{cases_lt}
use Rattle.std.proofs.lemmas.Option.{slice_get_within, slice_get-get_or, get_or_from_slice_get}
use Rattle.gt_core.specs.Literal.{state_of}
use Rattle.gt_core.specs.Task.{Task}
use Rattle.gt_core.specs.Execution.{Runs, IsGoal, next_values}
use Rattle.state_store.specs.Store.{Stored, with_state}
use Rattle.state_store.proofs.published.PushedLaw.{pushed_at, pushed_before, pushed_last}
use Rattle.search_laws.specs.Search.{IsListed, AreDepths}
use Rattle.state_search.specs.own.Walk.{IsWalk, IsPassed, none_tried}
use Rattle.state_search.specs.own.Breadth.{AreFrom, LeadsNear, IsBreadth, IsFound}
use Rattle.state_search.proofs.WalkLaw.{walk_push, one_more, same_state, earlier_passed, passed_skipped, number_before, number_last}

module _ (task : Task) (st : Stored) (number act : ℕ) (tried more : ℕ → Type 0) (one : (a : ℕ) → more a → tried a ⊎ (a ≡ act)) (source : List Bool) (breadth : IsBreadth task st number tried) (at : slice_get st.states number ≡ Some source) where
  below : number < length st.states
  below = slice_get_within st.states number source at

  abbrev depth : ℕ → ℕ
  depth k = slice_index breadth.depths k

  -- the action leads near, if it runs
  passed : (Runs task (state_of source) act → LeadsNear task st breadth.depths number source act) → (k : ℕ) (s : List Bool) (a : ℕ) → IsPassed number more k a → slice_get st.states k ≡ Some s → Runs task (state_of s) a → LeadsNear task st breadth.depths k s a
  passed leads k s a is there runs =
      elim (one_more number act tried more one k a is) [
        | inl before ↦ breadth.closed k s a before there runs
        | inr h ↦
            let e : source ≡ s = same_state st.states number source s at (ap (slice_get st.states) (sym h.0) ∙ there) in
            let own : Runs task (state_of source) act = subst (λ (t : List Bool). Runs task (state_of t) act) (sym e) (subst (λ (b : ℕ). Runs task (state_of s) b) h.1 runs) in
            subst (λ (n : ℕ). LeadsNear task st breadth.depths n s a) (sym h.0)
            (subst (λ (b : ℕ). LeadsNear task st breadth.depths number s b) (sym h.1)
            (subst (λ (t : List Bool). LeadsNear task st breadth.depths number t act) e (leads own)))
      ]

  with_leads : (Runs task (state_of source) act → LeadsNear task st breadth.depths number source act) → IsBreadth task st number more
  with_leads leads = record {
    walk = breadth.walk;
    depths = breadth.depths;
    from = breadth.from;
    rising = breadth.rising;
    near = breadth.near;
    closed = passed leads;
    no_goal = breadth.no_goal;
  }

  -- an action that cannot run
  pub unable : (Runs task (state_of source) act → ⊥) → IsBreadth task st number more
  unable not = with_leads (λ runs. absurd (not runs))

  -- an action to a known state
  pub known : IsListed st.states (next_values task (state_of source) act) → IsBreadth task st number more
  known listed = with_leads (λ runs. (listed.0, listed.1, breadth.near listed.0 (slice_get_within st.states listed.0 (next_values task (state_of source) act) listed.1) below))

  module _ (runs : Runs task (state_of source) act) where
    abbrev new : List Bool
    new = next_values task (state_of source) act

    abbrev now : Stored
    now = with_state st new number act

    abbrev n : ℕ
    n = length st.states

    abbrev deep : List ℕ
    deep = breadth.depths ++ (depth number + 1) ∷ []

    long_depths : length breadth.depths ≡ n
    long_depths = breadth.from.long ∙ breadth.walk.parents

    long_now : length now.states ≡ n + 1
    long_now = length-append st.states (new ∷ [])

    long_parents : length now.parents ≡ n + 1
    long_parents = let l = length-append st.parents (number ∷ []) in omega (arith, l, breadth.walk.parents)

    old_depth : (k : ℕ) → k < n → slice_index deep k ≡ depth k
    old_depth k lt = number_before breadth.depths (depth number + 1) k (omega (arith, lt, long_depths))

    new_depth : (k : ℕ) → k ≡ n → slice_index deep k ≡ depth number + 1
    new_depth k e = number_last breadth.depths (depth number + 1) k (e ∙ sym long_depths)

    deeper : (k : ℕ) → suc k < length now.parents → slice_index deep (suc k) ≡ slice_index deep (slice_index now.parents (suc k)) + 1
    deeper k lt = by (cases_lt (suc k) n)
      where
        by : (suc k < n) ⊎ (n ≤ suc k) → slice_index deep (suc k) ≡ slice_index deep (slice_index now.parents (suc k)) + 1
        by (inl old) =
            let parent = number_before st.parents number (suc k) (omega (arith, old, breadth.walk.parents)) in
            let there = slice_get-get_or st.states (suc k) [] old in
            let earlier = (breadth.walk.tree.next k _ there).earlier in
            let own = old_depth (suc k) old in
            let its = ap (slice_index deep) parent ∙ old_depth (slice_index st.parents (suc k)) (omega (arith, earlier, old)) in
            let was = breadth.from.next k (omega (arith, old, breadth.walk.parents)) in
            omega (arith, own, its, was)
        by (inr last) =
            let e : suc k ≡ n = omega (arith, last, lt, long_parents) in
            let parent = number_last st.parents number (suc k) (e ∙ sym breadth.walk.parents) in
            let own = new_depth (suc k) e in
            let its = ap (slice_index deep) parent ∙ old_depth number below in
            omega (arith, own, its)

    from_now : AreFrom now.parents deep
    from_now = record {
      long = (let l = length-append breadth.depths ((depth number + 1) ∷ []) in omega (arith, l, long_depths, long_parents));
      first = old_depth 0 (omega (arith, below)) ∙ breadth.from.first;
      next = deeper;
    }

    near_now : (k : ℕ) → k < n + 1 → slice_index deep k ≤ depth number + 1
    near_now k lt = elim (cases_lt k n) [
      | inl old ↦ let e = old_depth k old in let le = breadth.near k old below in omega (arith, e, le)
      | inr last ↦ let e = new_depth k (omega (arith, last, lt)) in omega (arith, e)
    ]

    rising_now : (i j : ℕ) → i ≤ j → j < n + 1 → slice_index deep i ≤ slice_index deep j
    rising_now i j le lt = elim (cases_lt j n) [
      | inl old ↦ let a = old_depth i (omega (arith, le, old)) in let b = old_depth j old in let r = breadth.rising i j le old in omega (arith, a, b, r)
      | inr last ↦ let b = new_depth j (omega (arith, last, lt)) in let r = near_now i (omega (arith, le, lt)) in omega (arith, b, r)
    ]

    -- what led near still does
    still_near : (k : ℕ) (s : List Bool) (a : ℕ) → k < n → LeadsNear task st breadth.depths k s a → LeadsNear task now deep k s a
    still_near k s a lt leads =
        let j = slice_get_within st.states leads.0 (next_values task (state_of s) a) leads.1 in
        let own = old_depth leads.0 j in
        let its = old_depth k lt in
        let le = leads.2 in
        (leads.0, pushed_before st.states new (next_values task (state_of s) a) leads.0 leads.1, omega (arith, own, its, le))

    own_near : LeadsNear task now deep number source act
    own_near =
        let own = new_depth n refl in
        let its = old_depth number below in
        (n, pushed_last st.states new, omega (arith, own, its))

    closed_now : (k : ℕ) (s : List Bool) (a : ℕ) → IsPassed number more k a → slice_get now.states k ≡ Some s → Runs task (state_of s) a → LeadsNear task now deep k s a
    closed_now k s a is there can = by (pushed_at st.states new s k there) (one_more number act tried more one k a is)
      where
        before : IsPassed number more k a → k < n
        before (inl lt) = omega (arith, lt, below)
        before (inr h) = let e = h.0 in omega (arith, e, below)

        by : (slice_get st.states k ≡ Some s) ⊎ ((k ≡ n) × (s ≡ new)) → IsPassed number tried k a ⊎ ((k ≡ number) × (a ≡ act)) → LeadsNear task now deep k s a
        by (inr last) which = let e = last.0 in let lt = before is in absurd (omega (arith, e, lt))
        by (inl old) (inl passed_before) = still_near k s a (slice_get_within st.states k s old) (breadth.closed k s a passed_before old can)
        by (inl old) (inr own) =
            let e : source ≡ s = same_state st.states number source s at (ap (slice_get st.states) (sym own.0) ∙ old) in
            subst (λ (m : ℕ). LeadsNear task now deep m s a) (sym own.0)
            (subst (λ (b : ℕ). LeadsNear task now deep number s b) (sym own.1) (subst (λ (t : List Bool). LeadsNear task now deep number t act) e own_near))

    -- an action to a new state that is no goal
    pub entered : (IsGoal task (state_of new) → ⊥) → IsBreadth task now number more
    entered not = record {
      walk = walk_push task st number act source breadth.walk at runs;
      depths = deep;
      from = from_now;
      rising = λ i j le lt. rising_now i j le (omega (arith, lt, long_now));
      near = λ k lt number_lt. (let r = near_now k (omega (arith, lt, long_now)) in let e = old_depth number below in omega (arith, r, e));
      closed = closed_now;
      no_goal = λ k s there goal. elim (pushed_at st.states new s k there) [ inl old ↦ breadth.no_goal k s old goal | inr last ↦ not (subst (λ (t : List Bool). IsGoal task (state_of t)) last.1 goal) ];
    }

    -- a state at a lesser depth than the new one's, and of a number that is less
    shallow : (k i : ℕ) → k < n + 1 → slice_get deep k ≡ Some i → i < depth number + 1 → (k < n) × (depth k ≡ i)
    shallow k i lt has less =
        let e : slice_index deep k ≡ i = get_or_from_slice_get deep k i 0 has in
        elim (cases_lt k n) [
          | inl old ↦ (old, sym (old_depth k old) ∙ e)
          | inr last ↦ absurd (let d = new_depth k (omega (arith, last, lt)) in omega (arith, d, e, less))
        ]

    layers_now : AreDepths task now.states deep (slice_index deep n)
    layers_now = record {
      initial = (0, pushed_before st.states new task.initial 0 breadth.walk.tree.first, (let e = from_now.first in let l = from_now.long in slice_get-get_or deep 0 0 (omega (arith, l, long_parents)) ∙ ap (λ (d : ℕ). Some d) e));
      next = λ i s a less there can. (
          let top = new_depth n refl in
          let lt = slice_get_within now.states there.0 s there.1 in
          let low = shallow there.0 i (omega (arith, lt, long_now)) there.2 (omega (arith, less, top)) in
          let k_lt = low.0 in
          let k_deep = low.1 in
          let before : there.0 < number = elim (cases_lt there.0 number) [ inl h ↦ h | inr le ↦ absurd (let r = breadth.rising number there.0 le k_lt in omega (arith, r, k_deep, less, top)) ] in
          let old : slice_get st.states there.0 ≡ Some s = elim (pushed_at st.states new s there.0 there.1) [ inl h ↦ h | inr last ↦ absurd (let e = last.0 in omega (arith, e, k_lt)) ] in
          let leads = breadth.closed there.0 s a (inl before) old can in
          let j = slice_get_within st.states leads.0 (next_values task (state_of s) a) leads.1 in
          let own = old_depth leads.0 j in
          let l = from_now.long in
          let le = leads.2 in (
            depth leads.0,
            omega (arith, le, k_deep),
            (
              leads.0,
              pushed_before st.states new (next_values task (state_of s) a) leads.0 leads.1,
              slice_get-get_or deep leads.0 0 (omega (arith, j, l, long_parents)) ∙ ap (λ (d : ℕ). Some d) own,
            ),
          )
          );
      no_goal = λ i s less there goal. (
          let top = new_depth n refl in
          let lt = slice_get_within now.states there.0 s there.1 in
          let low = shallow there.0 i (omega (arith, lt, long_now)) there.2 (omega (arith, less, top)) in
          let k_lt = low.0 in
          let old : slice_get st.states there.0 ≡ Some s = elim (pushed_at st.states new s there.0 there.1) [ inl h ↦ h | inr last ↦ absurd (let e = last.0 in omega (arith, e, k_lt)) ] in
          breadth.no_goal there.0 s old goal
          );
    }

    -- an action to a goal
    pub found : IsGoal task (state_of new) → IsFound task now
    found goal = record {
      walk = walk_push task st number act source breadth.walk at runs;
      depths = deep;
      from = from_now;
      last = n;
      is_last = (let l = long_now in omega (arith, l));
      state = new;
      at = pushed_last st.states new;
      goal = goal;
      layers = layers_now;
    }

  -- ---- what the loop over the actions keeps

  abbrev Kept : Stored → Type 0
  Kept after = IsBreadth task after number more × (slice_get after.states number ≡ Some source) × (after.most ≡ st.most)

  pub kept_unable : (after : Stored) → after ≡ st → (Runs task (state_of source) act → ⊥) → Kept after
  kept_unable after same not = subst Kept (sym same) (unable not, at, refl)

  pub kept_known : (after : Stored) → after ≡ st → IsListed st.states (next_values task (state_of source) act) → Kept after
  kept_known after same listed = subst Kept (sym same) (known listed, at, refl)

  pub kept_entered : (after : Stored) → (runs : Runs task (state_of source) act) → after ≡ with_state st (next_values task (state_of source) act) number act → (IsGoal task (state_of (next_values task (state_of source) act)) → ⊥) → Kept after
  kept_entered after runs same not = subst Kept (sym same) (entered runs not, pushed_before st.states (next_values task (state_of source) act) source number at, refl)

module _ (task : Task) (st : Stored) (number : ℕ) (tried : ℕ → Type 0) (source : List Bool) (breadth : IsBreadth task st number tried) (at : slice_get st.states number ≡ Some source) where
  -- actions that cannot run in the state that is swept are as good as tried
  pub breadth_skipped : (more : ℕ → Type 0) → ((a : ℕ) → more a → tried a ⊎ (Runs task (state_of source) a → ⊥)) → IsBreadth task st number more
  breadth_skipped more which = record {
    walk = breadth.walk;
    depths = breadth.depths;
    from = breadth.from;
    rising = breadth.rising;
    near = breadth.near;
    closed = λ k s a is there runs. breadth.closed k s a (passed_skipped task st number tried more source at which k s a is there runs) there runs;
    no_goal = breadth.no_goal;
  }

  -- a state all of whose actions were tried
  pub all_tried : ((a : ℕ) → a < length task.actions → tried a) → IsBreadth task st (number + 1) none_tried
  all_tried all = record {
    walk = breadth.walk;
    depths = breadth.depths;
    from = breadth.from;
    rising = breadth.rising;
    near = λ k lt number_lt. (let le = breadth.near k lt (slice_get_within st.states number source at) in let r = breadth.rising number (number + 1) (omega arith) number_lt in omega (arith, le, r));
    closed = λ k s a is there runs. breadth.closed k s a (earlier_passed number tried k a is (all a runs.action)) there runs;
    no_goal = breadth.no_goal;
  }

-- a store with the initial state alone, which is no goal
pub breadth_first : (task : Task) (st : Stored) → IsWalk task st → st.states ≡ task.initial ∷ [] → st.parents ≡ 0 ∷ [] → (IsGoal task (state_of task.initial) → ⊥) → IsBreadth task st 0 none_tried
breadth_first task st walk states parents not = record {
  walk = walk;
  depths = 0 ∷ [];
  from = record {
    long = sym (ap length parents);
    first = refl;
    next = λ k lt. absurd (let l = ap length parents in omega (arith, lt, l));
  };
  rising = λ i j le lt. (let one = ap (λ (xs : List (List Bool)). length xs) states in let a : i ≡ 0 = omega (arith, le, lt, one) in let b : j ≡ 0 = omega (arith, lt, one) in let e : slice_index (0 ∷ []) i ≡ slice_index (0 ∷ []) j = ap (slice_index (0 ∷ [])) (a ∙ sym b) in omega (arith, e));
  near = λ k lt some. (let one = ap (λ (xs : List (List Bool)). length xs) states in let a : k ≡ 0 = omega (arith, lt, one) in let e : slice_index (0 ∷ []) k ≡ slice_index (0 ∷ []) 0 = ap (slice_index (0 ∷ [])) a in omega (arith, e));
  closed = λ k s a is there runs. absurd (none k a is);
  no_goal = λ k s there goal. (
      let one = ap (λ (xs : List (List Bool)). length xs) states in
      let lt = slice_get_within st.states k s there in
      let z : k ≡ 0 = omega (arith, lt, one) in
      let e : task.initial ≡ s = same_state st.states 0 task.initial s walk.tree.first (ap (slice_get st.states) (sym z) ∙ there) in
      not (subst (λ (t : List Bool). IsGoal task (state_of t)) (sym e) goal)
      );
}
  where
    none : (k a : ℕ) → IsPassed 0 none_tried k a → ⊥
    none k a (inl lt) = omega (arith, lt)
    none k a (inr h) = h.1
