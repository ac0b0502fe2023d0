-- Copies of what actions need and do.
use Rattle.std.proofs.Common.{arith, ◌≡◌, ◌==◌, ℕ, zero, suc, ◌+◌, ◌*◌, ◌/◌, ◌%◌, ◌<◌, ◌≤◌, List, [], ◌∷◌, ◌++◌, Bool, true, false, not, ◌&&◌, ◌||◌, length, drop, get_or, refl, sym, ap, subst, ◌∙◌, inl, inr, Some, if◌then◌else◌}
use Rattle.std.specs.Prelude.{slice_get, slice_index_or}
use Rattle.std.specs.List.{AllByRecursion, list_any}
use Rattle.std.proofs.lemmas.Bool.{cases_lt}
use Rattle.std.proofs.lemmas.List.{get_or_push, get_or_append_left, length_push, at_drop_more}
use Rattle.bit_sets.specs.Rows.{row_has}
use Rattle.gt_core.specs.Literal.{is_in, all_hold, state_of}
use Rattle.gt_core.specs.Task.{Effect, Action, Task, action, precondition}
use Rattle.gt_core.specs.Lawful.{is_conditional, is_task}
use Rattle.gt_core.specs.Active.{is_active}
use Rattle.gt_core.proofs.published.Basics.{not_true, same_if, same_test, test_same, apart, each_from, each_at}
use Rattle.gt_core.proofs.published.Within.{precondition_within}
use Rattle.state_store.specs.Packed.{unpacked, IsPacked}
use Rattle.state_store.proofs.published.PushedLaw.{pushed_before, pushed_last}
use Rattle.successors.proofs.RowState.{add_moved, hold_same}
use Rattle.successors.specs.declared.moves.Moves.{Moves}
use Rattle.successors.specs.Moves.{AreMade, IsMove, IsAdded, IsMoveAt, AreMoves, IsMoves}
use Rattle.successors.specs.own.After.{after_effects}
use Rattle.successors.specs.own.Noted.{noted}

-- no condition is one that holds
sure : (e : Effect) → is_conditional e ≡ false → e.condition ≡ []
sure e none = by e.condition none
  where
    by : (ls : List ℕ) → is_conditional (record { condition = ls; literal = e.literal }) ≡ false → ls ≡ []
    by [] h = refl
    by (l ∷ ls) h =
        let some : (length (l ∷ ls) == 0) ≡ false = not_true (length (l ∷ ls) == 0) (λ t. let none : length (l ∷ ls) ≡ 0 = test_same _ _ t in omega (arith, none)) in
        absurd (apart (not (length (l ∷ ls) == 0)) (ap not some) h)

is_sure : (s : ℕ → Bool) (l : ℕ) (e : Effect) → is_conditional e ≡ false → is_active s l e ≡ (e.literal == l)
is_sure s l e none = by (e.literal == l) (ap (all_hold s) (sure e none))
  where
    by : (b : Bool) → all_hold s e.condition ≡ true → (b && all_hold s e.condition) ≡ b
    by true h = h
    by false h = refl

-- an effect without condition, of the kind that is gathered
of_kind : (s : ℕ → Bool) (f rest : ℕ) (e : Effect) → is_conditional e ≡ false → rest < 2 → e.literal % 2 ≡ rest → is_active s (2 * f + rest) e ≡ (e.literal / 2 == f)
of_kind s f rest e none few kind =
    is_sure s (2 * f + rest) e none
    ∙ same_if (e.literal == 2 * f + rest) (e.literal / 2 == f)
    (λ t. let is : e.literal ≡ 2 * f + rest = test_same _ _ t in same_test _ _ (omega (arith, is, few)))
    (λ t. let is : e.literal / 2 ≡ f = test_same _ _ t in same_test _ _ (omega (arith, is, kind)))

-- one of the other kind
of_other : (s : ℕ → Bool) (f rest : ℕ) (e : Effect) → is_conditional e ≡ false → rest < 2 → (e.literal % 2 ≡ rest → ⊥) → is_active s (2 * f + rest) e ≡ false
of_other s f rest e none few other =
    is_sure s (2 * f + rest) e none
    ∙ not_true (e.literal == 2 * f + rest) (λ t. let is : e.literal ≡ 2 * f + rest = test_same _ _ t in other (omega (arith, is, few)))

-- one fact more
in_pushed : (fs : List ℕ) (g f : ℕ) → is_in (fs ++ g ∷ []) f ≡ ((g == f) || is_in fs f)
in_pushed [] g f = refl
in_pushed (x ∷ fs) g f = ap (λ (b : Bool). (x == f) || b) (in_pushed fs g f) ∙ swapped (x == f) (g == f) (is_in fs f)
  where
    swapped : (x g rest : Bool) → (x || (g || rest)) ≡ (g || (x || rest))
    swapped true true rest = refl
    swapped true false rest = refl
    swapped false true rest = refl
    swapped false false rest = refl

all_pushed : (facts : ℕ) (fs : List ℕ) (g : ℕ) → AllByRecursion (λ f. f < facts) fs → g < facts → AllByRecursion (λ f. f < facts) (fs ++ g ∷ [])
all_pushed facts [] g all lt = (lt, tt)
all_pushed facts (x ∷ fs) g all lt = (all.0, all_pushed facts fs g all.1 lt)

pub noted_within : (facts rest : ℕ) (e : Effect) (fs : List ℕ) → AllByRecursion (λ f. f < facts) fs → e.literal / 2 < facts → AllByRecursion (λ f. f < facts) (noted rest e fs)
noted_within facts rest e fs all lt = by (e.literal % 2 == rest)
  where
    by : (b : Bool) → AllByRecursion (λ f. f < facts) (if b then fs ++ e.literal / 2 ∷ [] else fs)
    by true = all_pushed facts fs (e.literal / 2) all lt
    by false = all

-- what an effect makes, and the facts before it
noted_in : (s : ℕ → Bool) (f rest : ℕ) (e : Effect) (fs : List ℕ) → is_conditional e ≡ false → rest < 2 → (is_active s (2 * f + rest) e || is_in fs f) ≡ is_in (noted rest e fs) f
noted_in s f rest e fs none few = by (e.literal % 2 == rest) refl
  where
    by : (b : Bool) → (e.literal % 2 == rest) ≡ b → (is_active s (2 * f + rest) e || is_in fs f) ≡ is_in (if b then fs ++ e.literal / 2 ∷ [] else fs) f
    by true is = ap (λ (b : Bool). b || is_in fs f) (of_kind s f rest e none few (test_same _ _ is)) ∙ sym (in_pushed fs (e.literal / 2) f)
    by false is = ap (λ (b : Bool). b || is_in fs f) (of_other s f rest e none few (λ same. apart (e.literal % 2 == rest) (same_test _ _ same) is))

-- the next effect of those that are left is noted
pub noted_more : (rest : ℕ) (es : List Effect) (i : ℕ) (e : Effect) (fs now : List ℕ) → is_conditional e ≡ false → rest < 2 → i < length es → e ≡ get_or es i e → now ≡ noted rest e fs
    → ((s : ℕ → Bool) (f : ℕ) → list_any (is_active s (2 * f + rest)) es ≡ (list_any (is_active s (2 * f + rest)) (drop i es) || is_in fs f))
    → (s : ℕ → Bool) (f : ℕ) → list_any (is_active s (2 * f + rest)) es ≡ (list_any (is_active s (2 * f + rest)) (drop (i + 1) es) || is_in now f)
noted_more rest es i e fs now none few lt is done before s f =
    let own = is_active s (2 * f + rest) in
    let left = list_any own (drop (i + 1) es) in
    before s f
    ∙ ap (λ (b : Bool). b || is_in fs f) (at_drop_more (list_any own) es i e lt)
    ∙ ap (λ (e : Effect). (own e || left) || is_in fs f) (sym is)
    ∙ add_moved (own e) left (is_in fs f)
    ∙ ap (λ (b : Bool). left || b) (noted_in s f rest e fs none few ∙ ap (λ (fs : List ℕ). is_in fs f) (sym done))

-- facts of a few are facts of more
pub facts_wide : (facts more : ℕ) (fs : List ℕ) → facts ≤ more → AllByRecursion (λ f. f < facts) fs → AllByRecursion (λ f. f < more) fs
facts_wide facts more fs le all = each_from (λ f. f < more) fs (λ f i. let lt : f < facts = each_at (λ f. f < facts) fs f all i in omega (arith, le, lt))

-- the facts that are added and deleted, in the state before
pub made_plain : (facts : ℕ) (es : List Effect) (deletes adds : List ℕ) → AreMade facts es 1 deletes → AreMade facts es 0 adds → (s : ℕ → Bool) (f : ℕ) → (is_in adds f || (s f && not (is_in deletes f))) ≡ after_effects s es f
made_plain facts es deletes adds deleting adding s f =
    let add : list_any (is_active s (2 * f)) es ≡ is_in adds f = (let same : 2 * f ≡ 2 * f + 0 = omega arith in ap (λ (l : ℕ). list_any (is_active s l) es) same) ∙ adding.made s f in
    rw (add, deleting.made s f) refl

-- one action more
module _ (task : Task) (old now : Moves) (count : ℕ) (are : AreMoves task old count) (added : IsAdded task.facts (action task count) old now) where
  plains_more : length now.plain.items ≡ count + 1
  plains_more = ap length added.plains ∙ length_push old.plain.items added.plain ∙ ap (λ (n : ℕ). n + 1) are.plains

  abbrev two : List (List ℕ)
  two = (old.lists ++ added.needs ∷ []) ++ added.deletes ∷ []

  long_one : length (old.lists ++ added.needs ∷ []) ≡ 3 * count + 1
  long_one = length_push old.lists added.needs ∙ ap (λ (n : ℕ). n + 1) are.lists

  long_two : length two ≡ 3 * count + 2
  long_two = length_push (old.lists ++ added.needs ∷ []) added.deletes ∙ (let l = long_one in omega (arith, l))

  lists_more : length now.lists ≡ 3 * (count + 1)
  lists_more = ap length added.lists ∙ length_push two added.adds ∙ (let l = long_two in omega (arith, l))

  kept : (k : ℕ) (x : List ℕ) → slice_get old.lists k ≡ Some x → slice_get now.lists k ≡ Some x
  kept k x at =
      ap (λ (ls : List (List ℕ)). slice_get ls k) added.lists
      ∙ pushed_before two added.adds x k (pushed_before (old.lists ++ added.needs ∷ []) added.deletes x k (pushed_before old.lists added.needs x k at))

  before : (a : ℕ) → a < count → IsMoveAt task now a
  before a lt =
      let m = are.each a lt in
      record {
        needs = m.needs;
        deletes = m.deletes;
        adds = m.adds;
        is = subst (λ (b : Bool). IsMove task.facts (action task a) b m.needs m.deletes m.adds)
            (sym (ap (λ (bs : List Bool). slice_index_or bs a false) added.plains ∙ get_or_append_left old.plain.items (added.plain ∷ []) false a (let l = are.plains in omega (arith, l, lt))))
            m.is;
        needed = kept (3 * a) m.needs m.needed;
        deleted = kept (3 * a + 1) m.deletes m.deleted;
        added = kept (3 * a + 2) m.adds m.added;
      }

  last : IsMoveAt task now count
  last = record {
    needs = added.needs;
    deletes = added.deletes;
    adds = added.adds;
    is = subst (λ (b : Bool). IsMove task.facts (action task count) b added.needs added.deletes added.adds)
        (sym (ap (λ (bs : List Bool). slice_index_or bs count false) added.plains ∙ get_or_push old.plain.items added.plain false count are.plains))
        added.is;
    needed = ap (λ (ls : List (List ℕ)). slice_get ls (3 * count)) added.lists
        ∙ pushed_before two added.adds added.needs (3 * count) (pushed_before (old.lists ++ added.needs ∷ []) added.deletes added.needs (3 * count)
        (subst (λ (k : ℕ). slice_get (old.lists ++ added.needs ∷ []) k ≡ Some added.needs) are.lists (pushed_last old.lists added.needs)));
    deleted = ap (λ (ls : List (List ℕ)). slice_get ls (3 * count + 1)) added.lists
        ∙ pushed_before two added.adds added.deletes (3 * count + 1)
        (subst (λ (k : ℕ). slice_get two k ≡ Some added.deletes) long_one (pushed_last (old.lists ++ added.needs ∷ []) added.deletes));
    added = ap (λ (ls : List (List ℕ)). slice_get ls (3 * count + 2)) added.lists
        ∙ subst (λ (k : ℕ). slice_get (two ++ added.adds ∷ []) k ≡ Some added.adds) long_two (pushed_last two added.adds);
  }

  pub moves_more : AreMoves task now (count + 1)
  moves_more = record {
    plains = plains_more;
    lists = lists_more;
    each = λ a lt. elim (cases_lt a count) [ inl h ↦ before a h | inr le ↦ subst (IsMoveAt task now) (let same : count ≡ a = omega (arith, lt, le) in same) last ];
  }

-- what the lists say of the action with a number
module _ (task : Task) (m : Moves) (a : ℕ) (at : IsMoveAt task m a) where
  pub needs_are : (ls : List ℕ) → slice_get m.lists (3 * a) ≡ Some ls → ls ≡ (action task a).precondition
  needs_are ls read = let same : Some ls ≡ Some at.needs = sym read ∙ at.needed in let is : ls ≡ at.needs = cc in is ∙ at.is.needing

  pub deletes_are : (fs : List ℕ) → slice_get m.lists (3 * a + 1) ≡ Some fs → slice_index_or m.plain.items a false ≡ true → AreMade task.facts (action task a).effects 1 fs
  deletes_are fs read plain =
      let same : Some at.deletes ≡ Some fs = sym at.deleted ∙ read in
      let is : at.deletes ≡ fs = cc in
      subst (AreMade task.facts (action task a).effects 1) is (at.is.deleting plain)

  pub adds_are : (fs : List ℕ) → slice_get m.lists (3 * a + 2) ≡ Some fs → slice_index_or m.plain.items a false ≡ true → AreMade task.facts (action task a).effects 0 fs
  adds_are fs read plain =
      let same : Some at.adds ≡ Some fs = sym at.added ∙ read in
      let is : at.adds ≡ fs = cc in
      subst (AreMade task.facts (action task a).effects 0) is (at.is.adding plain)

-- whether what an action needs holds in a row tells whether it holds in its state
pub needs_told : (task : Task) (m : Moves) (a : ℕ) (row : List ℕ) (ls : List ℕ) → is_task task ≡ true → IsPacked task.facts row → IsMoves task m → a < length task.actions → slice_get m.lists (3 * a) ≡ Some ls
    → all_hold (row_has row) ls ≡ all_hold (state_of (unpacked task.facts row)) (precondition task a)
needs_told task m a row ls lawful packed moves lt read =
    ap (all_hold (row_has row)) (needs_are task m a (moves.each a lt) ls read) ∙ hold_same task lawful row packed (precondition task a) (precondition_within task a lawful lt)
