-- A walk with one more state.
use Rattle.std.proofs.Common.{arith, ◌≡◌, ℕ, suc, ◌+◌, ◌<◌, List, [], ◌∷◌, ◌++◌, Bool, length, length-append, refl, sym, ap, ◌∙◌, subst, Some, ◌⊎◌, inl, inr}
use Rattle.std.specs.Prelude.{slice_get, slice_index}
use Rattle.std.proofs.lemmas.Bool.{cases_lt}
use Rattle.std.proofs.lemmas.Option.{slice_get_within}
use Rattle.std.proofs.Math.ListN.{get_or-append}
use Rattle.std.proofs.Math.Seq.{get_or-append_seam}
use Rattle.gt_core.specs.Literal.{state_of}
use Rattle.gt_core.specs.Task.{Task}
use Rattle.gt_core.specs.Execution.{Runs, next_values}
use Rattle.state_store.specs.Store.{Stored, with_state, emptied, IsEntered}
use Rattle.state_store.specs.Packed.{unpacked, IsPacked, width_of}
use Rattle.state_store.specs.declared.store.Entered.{Entered}
use Rattle.state_store.specs.declared.store.Entered.TheVariants.{Known, New, Full}
use Rattle.state_store.proofs.published.PushedLaw.{pushed_at, pushed_before}
use Rattle.state_store.proofs.published.RowLaw.{length-row}
use Rattle.search_laws.specs.Tree.{IsAfter}
use Rattle.state_search.specs.own.Walk.{IsWalk, IsPassed, none_tried}

-- what is passed with one action more: what was passed, or that action
pub one_more : (number act : ℕ) (tried more : ℕ → Type 0) → ((a : ℕ) → more a → tried a ⊎ (a ≡ act)) → (k a : ℕ) → IsPassed number more k a → IsPassed number tried k a ⊎ ((k ≡ number) × (a ≡ act))
one_more number act tried more one k a (inl below) = inl (inl below)
one_more number act tried more one k a (inr h) = elim (one a h.1) [ inl old ↦ inl (inr (h.0, old)) | inr is ↦ inr (h.0, is) ]

pub same_state : (states : List (List Bool)) (k : ℕ) (s t : List Bool) → slice_get states k ≡ Some s → slice_get states k ≡ Some t → s ≡ t
same_state states k s t a b = let o : Some s ≡ Some t = sym a ∙ b in cc

-- what is passed with the state, where all its actions were tried
pub earlier_passed : (number : ℕ) (tried : ℕ → Type 0) (k a : ℕ) → IsPassed (number + 1) none_tried k a → tried a → IsPassed number tried k a
earlier_passed number tried k a (inl lt) is = elim (cases_lt k number) [ inl h ↦ inl h | inr le ↦ inr (omega (arith, lt, le), is) ]
earlier_passed number tried k a (inr h) is = absurd h.1

-- a number of a list with one more, before the last one and as the last one
pub number_before : (xs : List ℕ) (x k : ℕ) → k < length xs → slice_index (xs ++ x ∷ []) k ≡ slice_index xs k
number_before xs x k lt = get_or-append xs (x ∷ []) 0 k lt

pub number_last : (xs : List ℕ) (x k : ℕ) → k ≡ length xs → slice_index (xs ++ x ∷ []) k ≡ x
number_last xs x k e = ap (slice_index (xs ++ x ∷ [])) e ∙ get_or-append_seam xs x [] 0

module _ (task : Task) (st : Stored) (parent a : ℕ) (source : List Bool) (walk : IsWalk task st) (at : slice_get st.states parent ≡ Some source) (runs : Runs task (state_of source) a) where
  abbrev new : List Bool
  new = next_values task (state_of source) a

  abbrev states : List (List Bool)
  states = st.states ++ new ∷ []

  next : (k : ℕ) (s : List Bool) → slice_get states (suc k) ≡ Some s → IsAfter task states (suc k) (slice_index (st.parents ++ parent ∷ []) (suc k)) (slice_index (st.actions ++ a ∷ []) (suc k)) s
  next k s there = by (pushed_at st.states new s (suc k) there)
    where
      by : (slice_get st.states (suc k) ≡ Some s) ⊎ ((suc k ≡ length st.states) × (s ≡ new)) → IsAfter task states (suc k) (slice_index (st.parents ++ parent ∷ []) (suc k)) (slice_index (st.actions ++ a ∷ []) (suc k)) s
      by (inl before) =
          let old = walk.tree.next k s before in
          let lt = slice_get_within st.states (suc k) s before in
          let p = number_before st.parents parent (suc k) (omega (arith, lt, walk.parents)) in
          let b = number_before st.actions a (suc k) (omega (arith, lt, walk.actions)) in
          subst (λ (n : ℕ). IsAfter task states (suc k) n (slice_index (st.actions ++ a ∷ []) (suc k)) s) (sym p)
          (subst (λ (n : ℕ). IsAfter task states (suc k) (slice_index st.parents (suc k)) n s) (sym b)
          (record { earlier = old.earlier; source = old.source; is = pushed_before st.states new old.source (slice_index st.parents (suc k)) old.is; runs = old.runs; leads = old.leads }))
      by (inr last) =
          let e = last.0 in
          let lt = slice_get_within st.states parent source at in
          let p = number_last st.parents parent (suc k) (omega (arith, e, walk.parents)) in
          let b = number_last st.actions a (suc k) (omega (arith, e, walk.actions)) in
          subst (λ (n : ℕ). IsAfter task states (suc k) n (slice_index (st.actions ++ a ∷ []) (suc k)) s) (sym p)
          (subst (λ (n : ℕ). IsAfter task states (suc k) parent n s) (sym b)
          (record { earlier = omega (arith, e, lt); source = source; is = pushed_before st.states new source parent at; runs = runs; leads = last.1 }))

  pub walk_push : IsWalk task (with_state st new parent a)
  walk_push = record {
    facts = walk.facts;
    parents = (let p = length-append st.parents (parent ∷ []) in let s = length-append st.states (new ∷ []) in omega (arith, p, s, walk.parents));
    actions = (let p = length-append st.actions (a ∷ []) in let s = length-append st.states (new ∷ []) in omega (arith, p, s, walk.actions));
    tree = record { first = pushed_before st.states new task.initial 0 walk.tree.first; next = next };
  }

-- a store with the initial state alone
pub walk_first : (task : Task) (st : Stored) → st.facts ≡ task.facts → st.states ≡ task.initial ∷ [] → st.parents ≡ 0 ∷ [] → st.actions ≡ 0 ∷ [] → IsWalk task st
walk_first task st facts states parents actions = record {
  facts = facts;
  parents = ap length parents ∙ sym (ap (λ (xs : List (List Bool)). length xs) states);
  actions = ap length actions ∙ sym (ap (λ (xs : List (List Bool)). length xs) states);
  tree = record {
    first = ap (λ (xs : List (List Bool)). slice_get xs 0) states;
    next = λ k s at. (let none : slice_get (task.initial ∷ []) (suc k) ≡ Some s = ap (λ (xs : List (List Bool)). slice_get xs (suc k)) (sym states) ∙ at in absurd (cc));
  };
}

-- what is entered into an empty store is its only state
entered_first : (st new : Stored) (s : List Bool) (r : Entered) → st.states ≡ [] → 0 < st.most → IsEntered st new s 0 0 r → new ≡ with_state st s 0 0
entered_first st new s (Known k) none some e = absurd (let at : slice_get [] k ≡ Some s = sym (ap (λ (xs : List (List Bool)). slice_get xs k) none) ∙ e.1 in cc)
entered_first st new s New none some e = e.1
entered_first st new s Full none some e = absurd (let l : 0 ≡ st.most = sym (ap (λ (xs : List (List Bool)). length xs) none) ∙ e.2 in omega (arith, l, some))

-- so it is with the initial state
pub begun : (task : Task) (st cleared new : Stored) (most : ℕ) (row : List ℕ) (r : Entered) → cleared ≡ emptied st most → 0 < most → st.facts ≡ task.facts → unpacked task.facts row ≡ task.initial
    → IsEntered cleared new (unpacked cleared.facts row) 0 0 r → new ≡ with_state (emptied st most) task.initial 0 0
begun task st cleared new most row r is some facts initial e =
    let here : IsEntered (emptied st most) new (unpacked st.facts row) 0 0 r = subst (λ (c : Stored). IsEntered c new (unpacked c.facts row) 0 0 r) is e in
    entered_first (emptied st most) new (unpacked st.facts row) r refl some here
    ∙ ap (λ (s : List Bool). with_state (emptied st most) s 0 0) (ap (λ (n : ℕ). unpacked n row) facts ∙ initial)

-- a stored state stays where one more is entered
pub at_entered : (task : Task) (st : Stored) (number act : ℕ) (source : List Bool) → slice_get st.states number ≡ Some source → (after : Stored) → after ≡ with_state st (next_values task (state_of source) act) number act → slice_get after.states number ≡ Some source
at_entered task st number act source at after same = ap (λ (t : Stored). slice_get t.states number) same ∙ pushed_before st.states (next_values task (state_of source) act) source number at

-- what is passed where actions that cannot run count as tried
pub passed_skipped : (task : Task) (st : Stored) (number : ℕ) (tried more : ℕ → Type 0) (source : List Bool) → slice_get st.states number ≡ Some source → ((a : ℕ) → more a → tried a ⊎ (Runs task (state_of source) a → ⊥))
    → (k : ℕ) (s : List Bool) (a : ℕ) → IsPassed number more k a → slice_get st.states k ≡ Some s → Runs task (state_of s) a → IsPassed number tried k a
passed_skipped task st number tried more source at which k s a (inl below) there runs = inl below
passed_skipped task st number tried more source at which k s a (inr h) there runs =
    elim (which a h.1) [
      | inl old ↦ inr (h.0, old)
      | inr not ↦
          let e : source ≡ s = same_state st.states number source s at (ap (slice_get st.states) (sym h.0) ∙ there) in
          absurd (not (subst (λ (t : List Bool). Runs task (state_of t) a) (sym e) runs))
    ]

-- a row of a stored state has the width for the facts of the task
pub row_width : (task : Task) (st : Stored) (row : List ℕ) → IsWalk task st → IsPacked st.facts row → length row ≡ width_of task.facts
row_width task st row walk is = length-row st.facts row is ∙ ap width_of walk.facts
