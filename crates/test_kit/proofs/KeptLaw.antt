use Rattle.std.proofs.Common.{arith, ◌≡◌, ◌==◌, ℕ, zero, suc, ◌+◌, ◌*◌, ◌/◌, ◌%◌, ◌<◌, List, [], ◌∷◌, length, slice_get, Some, Bool, true, false, not, ◌&&◌, ◌||◌, refl, sym, ap, ◌∙◌, subst, inl, inr, below_more}
use Rattle.std.specs.List.{list_any}
use Rattle.gt_core.specs.Literal.{opposite, holds, all_hold, is_in}
use Rattle.gt_core.specs.Task.{Effect, Action, Task, action, precondition, initial_state}
use Rattle.gt_core.specs.Active.{is_active}
use Rattle.gt_core.specs.Execution.{next_of_one, Runs, CanRun, run}
use Rattle.gt_core.specs.Interference.{action_may_make, action_surely_makes, Knows}
use Rattle.gt_core.specs.Reached.{HoldsWherever}
use Rattle.gt_core.proofs.published.Basics.{Among, or_split, or_left, or_right, and_split, and_both, not_split, not_true, apart, test_same, passing, any_at, all_at, each_at, each_from}
use Rattle.gt_core.proofs.published.Literals.{holds_add, holds_delete, add_opposite, delete_opposite, even_is_add, odd_is_delete, in_among}
use Rattle.gt_core.proofs.published.Within.{among_at}
use Rattle.test_kit.specs.own.Kept.{secures, keeps, is_kept}

-- A pair that holds at first, and that each action keeps, holds wherever actions lead.

none_made : (s : ℕ → Bool) (l : ℕ) (es : List Effect) → list_any (λ e. e.literal == l) es ≡ false → list_any (is_active s l) es ≡ false
none_made s l es n =
    not_true (list_any (is_active s l) es) (λ t.
    let p = passing (is_active s l) es t in
    apart (list_any (λ e. e.literal == l) es) (any_at (λ e. e.literal == l) es p.one p.among (and_split (p.one.literal == l) _ p.passes).0) n)

empty_holds : (s : ℕ → Bool) (ls : List ℕ) → (length ls == 0) ≡ true → all_hold s ls ≡ true
empty_holds s [] e = refl
empty_holds s (l ∷ ls) e = let z : length (l ∷ ls) ≡ 0 = test_same _ _ e in absurd (omega arith)

surely_made : (s : ℕ → Bool) (l : ℕ) (es : List Effect) → list_any (λ e. (e.literal == l) && (length e.condition == 0)) es ≡ true → list_any (is_active s l) es ≡ true
surely_made s l es t =
    let p = passing (λ e. (e.literal == l) && (length e.condition == 0)) es t in
    let both = and_split (p.one.literal == l) (length p.one.condition == 0) p.passes in
    any_at (is_active s l) es p.one p.among (and_both (p.one.literal == l) (all_hold s p.one.condition) both.0 (empty_holds s p.one.condition both.1))

add_stays : (g m now : Bool) → m ≡ false → now ≡ true → (g || (now && not (m && not g))) ≡ true
add_stays true m now a b = refl
add_stays false m now a b = rw (a, b) refl

delete_stays : (g m now : Bool) → g ≡ false → not now ≡ true → not (g || (now && not (m && not g))) ≡ true
delete_stays g m true a b = absurd (let f : false ≡ true = b in cc)
delete_stays g m false a b = rw a refl

add_made : (g m now : Bool) → g ≡ true → (g || (now && not (m && not g))) ≡ true
add_made g m now a = rw a refl

delete_made : (g m now : Bool) → g ≡ false → m ≡ true → not (g || (now && not (m && not g))) ≡ true
delete_made g m true a b = rw (a, b) refl
delete_made g m false a b = rw a refl

module _ (task : Task) (s : ℕ → Bool) (a : ℕ) where
  abbrev x : Action
  x = action task a

  abbrev after : ℕ → Bool
  after = next_of_one task s a

  -- a literal that nothing takes stays
  stays : (l : ℕ) → action_may_make x (opposite l) ≡ false → holds s l ≡ true → holds after l ≡ true
  stays l n h = by (l % 2 == 0) refl
    where
      f : ℕ
      f = l / 2

      by : (b : Bool) → (l % 2 == 0) ≡ b → holds after l ≡ true
      by true e =
          let is = even_is_add l e in
          let none : action_may_make x (2 * (l / 2) + 1) ≡ false = ap (action_may_make x) (sym (add_opposite l (l / 2) is)) ∙ n in
          let now : s (l / 2) ≡ true = sym (ap (holds s) is ∙ holds_add s (l / 2)) ∙ h in
          ap (holds after) is ∙ holds_add after (l / 2) ∙ add_stays _ _ _ (none_made s (2 * (l / 2) + 1) x.effects none) now
      by false e =
          let is = odd_is_delete l e in
          let none : action_may_make x (2 * (l / 2)) ≡ false = ap (action_may_make x) (sym (delete_opposite l (l / 2) is)) ∙ n in
          let now : not (s (l / 2)) ≡ true = sym (ap (holds s) is ∙ holds_delete s (l / 2)) ∙ h in
          ap (holds after) is ∙ holds_delete after (l / 2) ∙ delete_stays _ (list_any (is_active s (2 * (l / 2) + 1)) x.effects) (s (l / 2)) (none_made s (2 * (l / 2)) x.effects none) now

  -- a literal that is surely made, and that nothing takes, holds
  made : (l : ℕ) → action_may_make x (opposite l) ≡ false → action_surely_makes x l ≡ true → holds after l ≡ true
  made l n m = by (l % 2 == 0) refl
    where
      by : (b : Bool) → (l % 2 == 0) ≡ b → holds after l ≡ true
      by true e =
          let is = even_is_add l e in
          let makes : action_surely_makes x (2 * (l / 2)) ≡ true = ap (action_surely_makes x) (sym is) ∙ m in
          ap (holds after) is ∙ holds_add after (l / 2) ∙ add_made _ _ _ (surely_made s (2 * (l / 2)) x.effects makes)
      by false e =
          let is = odd_is_delete l e in
          let none : action_may_make x (2 * (l / 2)) ≡ false = ap (action_may_make x) (sym (delete_opposite l (l / 2) is)) ∙ n in
          let makes : action_surely_makes x (2 * (l / 2) + 1) ≡ true = ap (action_surely_makes x) (sym is) ∙ m in
          ap (holds after) is ∙ holds_delete after (l / 2) ∙ delete_made _ _ (s (l / 2)) (none_made s (2 * (l / 2)) x.effects none) (surely_made s (2 * (l / 2) + 1) x.effects makes)

  secured : (l : ℕ) → Runs task s a → secures x l ≡ true → holds after l ≡ true
  secured l r t =
      let both = and_split (not (action_may_make x (opposite l))) _ t in
      let none = not_split (action_may_make x (opposite l)) both.0 in
      elim (or_split (is_in x.precondition l) (action_surely_makes x l) both.1) [
        | inl needed ↦ stays l none (all_at (holds s) (precondition task a) l r.able (in_among x.precondition l needed))
        | inr sure ↦ made l none sure
      ]

  -- one literal of a pair holds on, or the other is secured
  one_holds : (l m : ℕ) → Runs task s a → (not (action_may_make x (opposite l)) || secures x m) ≡ true → holds s l ≡ true → (holds after l || holds after m) ≡ true
  one_holds l m r t h =
      elim (or_split (not (action_may_make x (opposite l))) (secures x m) t) [
        | inl n ↦ or_left (holds after l) (holds after m) (stays l (not_split (action_may_make x (opposite l)) n) h)
        | inr k ↦ or_right (holds after l) (holds after m) (secured m r k)
      ]

  or_turned : (p q : Bool) → (p || q) ≡ true → (q || p) ≡ true
  or_turned true q h = or_right q true refl
  or_turned false q h = or_left q false h

  pub pair_holds : (p : ℕ × ℕ) → Runs task s a → keeps x p ≡ true → (holds s p.0 || holds s p.1) ≡ true → (holds after p.0 || holds after p.1) ≡ true
  pair_holds p r k h =
      let both = and_split (not (action_may_make x (opposite p.0)) || secures x p.1) _ k in
      elim (or_split (holds s p.0) (holds s p.1) h) [
        | inl t ↦ one_holds p.0 p.1 r both.0 t
        | inr t ↦ or_turned (holds after p.1) (holds after p.0) (one_holds p.1 p.0 r both.1 t)
      ]

-- a pair is kept
abbrev Kept : Task → ℕ × ℕ → Type 0
Kept task p = is_kept task p ≡ true

hold_from : (task : Task) (pairs : List (ℕ × ℕ)) → ((p : ℕ × ℕ) → Among p pairs → Kept task p) → (s : ℕ → Bool) (ks : List ℕ) → Knows pairs s → CanRun task s ks → Knows pairs (run task s ks)
hold_from task pairs kept s [] k c = k
hold_from task pairs kept s (a ∷ ks) k c =
    hold_from task pairs kept (next_of_one task s a) ks
    (each_from _ pairs (λ p i.
    let each = (and_split (holds (initial_state task) p.0 || holds (initial_state task) p.1) _ (kept p i)).1 in
    let keep = all_at (λ x. keeps x p) task.actions (action task a) each (among_at task.actions a (record { precondition = []; effects = [] }) c.0.action) in
    pair_holds task s a p c.0 keep (each_at _ pairs p k i)))
    c.1

among_each : (task : Task) (pairs : List (ℕ × ℕ)) → ((k : ℕ) (p : ℕ × ℕ) → k < length pairs → slice_get pairs k ≡ Some p → Kept task p) → (p : ℕ × ℕ) → Among p pairs → Kept task p
among_each task [] h p i = absurd i
among_each task (q ∷ pairs) h p (inl e) = subst (Kept task) (sym e) (h zero q (omega arith) refl)
among_each task (q ∷ pairs) h p (inr i) = among_each task pairs (λ k r lt e. h (suc k) r (omega (arith, lt)) e) p i

-- one more pair
pub one_more : (task : Task) (pairs : List (ℕ × ℕ)) (i : ℕ) (q : ℕ × ℕ) → ((k : ℕ) → k < i → (p : ℕ × ℕ) → slice_get pairs k ≡ Some p → Kept task p) → slice_get pairs i ≡ Some q → Kept task q → (k : ℕ) → k < i + 1 → (p : ℕ × ℕ) → slice_get pairs k ≡ Some p → Kept task p
one_more task pairs i q h at is =
    below_more (λ (k : ℕ). (p : ℕ × ℕ) → slice_get pairs k ≡ Some p → Kept task p) i h
    (λ p e. let same : q ≡ p = cc in subst (Kept task) same is)

pub all_kept : (task : Task) (pairs : List (ℕ × ℕ)) → ((k : ℕ) → k < length pairs → (p : ℕ × ℕ) → slice_get pairs k ≡ Some p → Kept task p) → HoldsWherever task pairs
all_kept task pairs h ks c =
    let kept = among_each task pairs (λ k p lt e. h k lt p e) in
    hold_from task pairs kept (initial_state task) ks (each_from _ pairs (λ p i. (and_split (holds (initial_state task) p.0 || holds (initial_state task) p.1) _ (kept p i)).0)) c
