-- A row, and the state for which it stands.
use Rattle.std.proofs.Common.{arith, ◌≡◌, ◌==◌, ℕ, ◌+◌, ◌*◌, ◌/◌, ◌^◌, ◌<◌, ◌≤◌, List, [], ◌∷◌, Bool, true, false, not, ◌&&◌, ◌||◌, length, get_or, refl, sym, ap, ◌∙◌, inl, inr}
use Rattle.std.specs.Prelude.{unwrap_or}
use Rattle.std.specs.List.{AllByRecursion, list_any}
use Rattle.std.proofs.lemmas.Bool.{cases_lt}
use Rattle.std.proofs.lemmas.List.{get_or_past}
use Rattle.std.proofs.lemmas.Option.{slice_get-get_or}
use Rattle.bit_sets.specs.Rows.{row_has}
use Rattle.gt_core.specs.Literal.{state_of, holds, all_hold}
use Rattle.gt_core.specs.Task.{Effect, Task, action}
use Rattle.gt_core.specs.Lawful.{is_task}
use Rattle.gt_core.specs.Active.{is_active, EffectWithin}
use Rattle.gt_core.specs.Execution.{Runs, next_of_one, next_values, IsGoal}
use Rattle.gt_core.proofs.published.Basics.{each_at, each_from, all_same, not_true, same_if, same_test, test_same, apart}
use Rattle.gt_core.proofs.published.Literals.{holds_same}
use Rattle.gt_core.proofs.published.Within.{lawful, literals_within, action_effects_within}
use Rattle.gt_core.proofs.published.NextLaw.{settled, values_are}
use Rattle.gt_core.proofs.published.SequenceLaw.{run_agrees}
use Rattle.state_store.specs.Packed.{unpacked, IsPacked}
use Rattle.state_store.proofs.published.RowLaw.{AreWords, value_at, length-unpacked, length-row, none_past, packed_if, width_holds}

-- literals of a few facts are of more facts
pub literals_wide : (facts more : ℕ) (ls : List ℕ) → facts ≤ more → AllByRecursion (λ l. l / 2 < facts) ls → AllByRecursion (λ l. l / 2 < more) ls
literals_wide facts more ls le all = each_from (λ l. l / 2 < more) ls (λ l i. let lt : l / 2 < facts = each_at (λ l. l / 2 < facts) ls l all i in omega (arith, le, lt))

pub effects_wide : (facts more : ℕ) (es : List Effect) → facts ≤ more → AllByRecursion (EffectWithin facts) es → AllByRecursion (EffectWithin more) es
effects_wide facts more es le all =
    each_from (EffectWithin more) es (λ e i.
    let w = each_at (EffectWithin facts) es e all i in
    let lt : e.literal < 2 * facts = w.literal in
    record { literal = omega (arith, le, lt); condition = literals_wide facts more e.condition le w.condition })

-- no effect is of a literal past the facts
none_active : (facts : ℕ) (s : ℕ → Bool) (l : ℕ) (es : List Effect) → 2 * facts ≤ l → AllByRecursion (EffectWithin facts) es → list_any (is_active s l) es ≡ false
none_active facts s l [] le all = refl
none_active facts s l (e ∷ es) le all =
    let lt : e.literal < 2 * facts = all.0.literal in
    let ne : (e.literal == l) ≡ false = not_true (e.literal == l) (λ t. let same : e.literal ≡ l = test_same _ _ t in omega (arith, same, lt, le)) in
    rw (ne, none_active facts s l es le all.1) refl

-- of a task's state
module _ (task : Task) (lawful_task : is_task task ≡ true) (row : List ℕ) (is : IsPacked task.facts row) where
  abbrev state : ℕ → Bool
  state = state_of (unpacked task.facts row)

  pub wide : task.facts ≤ 64 * length row
  wide = let l = length-row task.facts row is in let h = width_holds task.facts in omega (arith, l, h)

  value_of : (f : ℕ) → f < task.facts → state f ≡ row_has row f
  value_of f lt =
      ap (λ o. unwrap_or o false) (slice_get-get_or (unpacked task.facts row) f false (let l = length-unpacked task.facts row in omega (arith, l, lt)))
      ∙ value_at task.facts row f lt

  pub hold_same : (ls : List ℕ) → AllByRecursion (λ l. l / 2 < task.facts) ls → all_hold (row_has row) ls ≡ all_hold state ls
  hold_same ls within = all_same (holds (row_has row)) (holds state) ls (λ l i. holds_same (row_has row) state l (sym (value_of (l / 2) (each_at (λ l. l / 2 < task.facts) ls l within i))))

  pub goal_holds : task.hopeless ≡ false → all_hold (row_has row) task.goal ≡ true → IsGoal task state
  goal_holds hopeful all = record { hopeful = hopeful; reached = sym (hold_same task.goal (literals_within task.facts task.goal (lawful task lawful_task).goal)) ∙ all }

  pub goal_fails : all_hold (row_has row) task.goal ≡ false → IsGoal task state → ⊥
  goal_fails none goal = apart (all_hold (row_has row) task.goal) (hold_same task.goal (literals_within task.facts task.goal (lawful task lawful_task).goal) ∙ goal.reached) none

  -- what an action makes of a row is the row of the state after it
  module _ (a : ℕ) (runs : Runs task state a) (into : List ℕ) (long : length into ≡ length row)
      (has : (f : ℕ) → row_has into f ≡ (list_any (is_active (row_has row) (2 * f)) (action task a).effects || (row_has row f && not (list_any (is_active (row_has row) (2 * f + 1)) (action task a).effects)))) where
    within : AllByRecursion (EffectWithin task.facts) (action task a).effects
    within = action_effects_within task a lawful_task runs.action

    bit_after : (f : ℕ) → row_has into f ≡ next_of_one task (row_has row) a f
    bit_after f = has f ∙ settled (list_any (is_active (row_has row) (2 * f)) (action task a).effects) (list_any (is_active (row_has row) (2 * f + 1)) (action task a).effects) (row_has row f)

    pub packed_after : AreWords into → IsPacked task.facts into
    packed_after words =
        packed_if task.facts into (long ∙ length-row task.facts row is)
        (λ f le. has f ∙ rw (none_active task.facts (row_has row) (2 * f) (action task a).effects (omega (arith, le)) within, none_past task.facts row is f le) refl)
        words

    pub next_after : AreWords into → unpacked task.facts into ≡ next_values task state a
    next_after words =
        values_are (next_of_one task state a) task.facts (unpacked task.facts into) (length-unpacked task.facts into)
        (λ f lt.
        ap (λ o. unwrap_or o false) (slice_get-get_or (unpacked task.facts into) f false (let l = length-unpacked task.facts into in omega (arith, l, lt)))
        ∙ value_at task.facts into f lt
        ∙ bit_after f
        ∙ sym ((run_agrees task lawful_task (a ∷ []) state (row_has row) value_of (runs, tt)).1 f lt))

-- the words of a vector
pub words_of : (row : List ℕ) → ((i d : ℕ) → i < length row → get_or row i d < 2 ^ 64) → AreWords row
words_of row fit j = elim (cases_lt j (length row)) [
  | inl lt ↦ fit j 0 lt
  | inr le ↦ let none = get_or_past row j 0 le in omega (arith, none)
]

-- one effect of those that are left, at a step of a loop
pub add_moved : (one rest now : Bool) → ((one || rest) || now) ≡ (rest || (one || now))
add_moved true true now = refl
add_moved true false now = refl
add_moved false true now = refl
add_moved false false now = refl

pub delete_moved : (one rest now : Bool) → (now && not (one || rest)) ≡ ((now && not one) && not rest)
delete_moved true true true = refl
delete_moved true true false = refl
delete_moved true false true = refl
delete_moved true false false = refl
delete_moved false true true = refl
delete_moved false true false = refl
delete_moved false false true = refl
delete_moved false false false = refl

-- one fact of those that are left
tested_back : (g f : ℕ) → (g == f) ≡ (f == g)
tested_back g f = same_if (g == f) (f == g) (λ t. same_test f g (sym (test_same g f t))) (λ t. same_test g f (sym (test_same f g t)))

pub set_moved : (g f : ℕ) (rest now : Bool) → (((g == f) || rest) || now) ≡ (rest || ((f == g) || now))
set_moved g f rest now = ap (λ (b : Bool). (b || rest) || now) (tested_back g f) ∙ add_moved (f == g) rest now

pub cleared_moved : (g f : ℕ) (rest now : Bool) → (now && not ((g == f) || rest)) ≡ ((not (f == g) && now) && not rest)
cleared_moved g f rest now = ap (λ (b : Bool). now && not (b || rest)) (tested_back g f) ∙ delete_moved (f == g) rest now ∙ ap (λ (b : Bool). b && not rest) (swapped now (not (f == g)))
  where
    swapped : (x y : Bool) → (x && y) ≡ (y && x)
    swapped true true = refl
    swapped true false = refl
    swapped false true = refl
    swapped false false = refl
