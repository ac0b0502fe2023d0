use Rattle.std.proofs.Common.{arith, ◌≡◌, ◌==◌, ℕ, zero, suc, ◌+◌, ◌*◌, ◌/◌, ◌<◌, ◌≤◌, List, [], ◌∷◌, length, true, refl, Option, Some, None, inl, inr}
use Rattle.std.specs.Prelude.{nat_lt, nat_le, slice_index_or}
use Rattle.std.specs.List.{list_all, AllByRecursion}
use Rattle.std.proofs.lemmas.Bool.Decides.{nat_tests}
use Rattle.gt_core.specs.Task.{Effect, Task, action, precondition}
use Rattle.gt_core.specs.Lawful.{are_rising, is_literal_set, are_effects, is_action, is_within, is_task, is_wide, follows, conditional_in}
use Rattle.gt_core.specs.Active.{EffectWithin}
use Rattle.gt_core.proofs.published.Basics.{Among, and_split, all_at, each_at, each_from}
use Rattle.gt_core.specs.Limits.{most_facts, most_actions, most_conditional, race_limits, wide_limits}
use Rattle.gt_core.specs.declared.limits.Limits.{Limits}
use Rattle.std.proofs.lemmas.Bool.{and_from, le-leb, eq-eqb}

-- The literals of a task are in range.

rising_below : (top low : ℕ) (ls : List ℕ) → are_rising top low ls ≡ true → AllByRecursion (λ l. l < top) ls
rising_below top low [] e = tt
rising_below top low (l ∷ ls) e =
    let x = and_split (nat_le low l) _ e in
    let y = and_split (nat_lt l top) _ x.1 in
    let lt : l < top = let t : nat_lt l top ≡ true = y.0 in grind (arith, nat_tests) in
    (lt, rising_below top (l + 1) ls y.1)

-- each literal of a set is one of the facts'
pub literals_within : (facts : ℕ) (ls : List ℕ) → is_literal_set facts ls ≡ true → AllByRecursion (λ l. l / 2 < facts) ls
literals_within facts ls e = each_from _ ls (λ l i. let lt : l < 2 * facts = each_at (λ l. l < 2 * facts) ls l (rising_below (2 * facts) 0 ls e) i in omega arith)

-- the effects of a lawful action
pub effects_within : (facts : ℕ) (last : Option Effect) (es : List Effect) → are_effects facts last es ≡ true → AllByRecursion (EffectWithin facts) es
effects_within facts last [] e = tt
effects_within facts last (d ∷ es) e =
    let x = and_split (follows last d) _ e in
    let y = and_split (nat_lt d.literal (2 * facts)) _ x.1 in
    let z = and_split (is_literal_set facts d.condition) _ y.1 in
    let lt : d.literal < 2 * facts = let t : nat_lt d.literal (2 * facts) ≡ true = y.0 in grind (arith, nat_tests) in
    (record { literal = lt; condition = literals_within facts d.condition z.0 }, effects_within facts (Some d) es z.1)

-- what a task within limits keeps, by name
pub record Keeps (l : Limits) (task : Task) : Type 0 where
  pub facts : task.facts ≤ l.facts
  pub actions : length task.actions ≤ l.actions
  pub conditional : conditional_in task.actions ≤ l.conditional
  pub initial : length task.initial ≡ task.facts
  pub goal : is_literal_set task.facts task.goal ≡ true
  pub each : list_all (is_action task.facts) task.actions ≡ true

pub keeps : (l : Limits) (task : Task) → is_within l task ≡ true → Keeps l task
keeps l task e =
    let a = and_split (nat_le task.facts l.facts) _ e in
    let b = and_split (nat_le (length task.actions) l.actions) _ a.1 in
    let c = and_split (nat_le (conditional_in task.actions) l.conditional) _ b.1 in
    let d = and_split (length task.initial == task.facts) _ c.1 in
    let g = and_split (is_literal_set task.facts task.goal) _ d.1 in
    record {
      facts = let t : nat_le task.facts l.facts ≡ true = a.0 in grind (arith, nat_tests);
      actions = let t : nat_le (length task.actions) l.actions ≡ true = b.0 in grind (arith, nat_tests);
      conditional = let t : nat_le (conditional_in task.actions) l.conditional ≡ true = c.0 in grind (arith, nat_tests);
      initial = let t : (length task.initial == task.facts) ≡ true = d.0 in grind (arith, nat_tests);
      goal = g.0;
      each = g.1;
    }

-- what a task keeps that is encoded, by name
pub record Lawful (task : Task) : Type 0 where
  pub facts : task.facts ≤ most_facts
  pub actions : length task.actions ≤ most_actions
  pub conditional : conditional_in task.actions ≤ most_conditional
  pub initial : length task.initial ≡ task.facts
  pub goal : is_literal_set task.facts task.goal ≡ true
  pub each : list_all (is_action task.facts) task.actions ≡ true

pub lawful : (task : Task) → is_task task ≡ true → Lawful task
lawful task e =
    let k = keeps race_limits task e in
    record { facts = k.facts; actions = k.actions; conditional = k.conditional; initial = k.initial; goal = k.goal; each = k.each }

-- an action of the list at its number is among the list
pub among_at : {A : Type 0} (xs : List A) (k : ℕ) (d : A) → k < length xs → Among (slice_index_or xs k d) xs
among_at [] k d lt = absurd (omega arith)
among_at (x ∷ xs) zero d lt = inl refl
among_at (x ∷ xs) (suc k) d lt = inr (among_at xs k d (omega arith))

-- each action of a task within limits is lawful
action_in : (l : Limits) (task : Task) (a : ℕ) → is_within l task ≡ true → a < length task.actions → is_action task.facts (action task a) ≡ true
action_in l task a e lt = all_at (is_action task.facts) task.actions (action task a) (keeps l task e).each (among_at task.actions a _ lt)

pub action_lawful : (task : Task) (a : ℕ) → is_task task ≡ true → a < length task.actions → is_action task.facts (action task a) ≡ true
action_lawful task a e lt = action_in race_limits task a e lt

-- the literals of a precondition are of the task's facts
pub precondition_in : (l : Limits) (task : Task) (a : ℕ) → is_within l task ≡ true → a < length task.actions → AllByRecursion (λ p. p / 2 < task.facts) (precondition task a)
precondition_in l task a e lt = literals_within task.facts (precondition task a) (and_split (is_literal_set task.facts (precondition task a)) _ (action_in l task a e lt)).0

pub precondition_within : (task : Task) (a : ℕ) → is_task task ≡ true → a < length task.actions → AllByRecursion (λ l. l / 2 < task.facts) (precondition task a)
precondition_within task a e lt = precondition_in race_limits task a e lt

-- so are the literals of its effects
pub action_effects_in : (l : Limits) (task : Task) (a : ℕ) → is_within l task ≡ true → a < length task.actions → AllByRecursion (EffectWithin task.facts) (action task a).effects
action_effects_in l task a e lt = effects_within task.facts None (action task a).effects (and_split (is_literal_set task.facts (precondition task a)) _ (action_in l task a e lt)).1

pub action_effects_within : (task : Task) (a : ℕ) → is_task task ≡ true → a < length task.actions → AllByRecursion (EffectWithin task.facts) (action task a).effects
action_effects_within task a e lt = action_effects_in race_limits task a e lt

-- what is within limits is within wider ones
pub within_wider : (l m : Limits) (task : Task) → l.facts ≤ m.facts → l.actions ≤ m.actions → l.conditional ≤ m.conditional → is_within l task ≡ true → is_within m task ≡ true
within_wider l m task more_facts more_actions more_conditional e =
    let h = keeps l task e in
    let facts : task.facts ≤ m.facts = let le = h.facts in omega (arith, le, more_facts) in
    let actions : length task.actions ≤ m.actions = let le = h.actions in omega (arith, le, more_actions) in
    let conditional : conditional_in task.actions ≤ m.conditional = let le = h.conditional in omega (arith, le, more_conditional) in
    and_from _ _ (le-leb task.facts m.facts facts)
    (and_from _ _ (le-leb (length task.actions) m.actions actions)
    (and_from _ _ (le-leb (conditional_in task.actions) m.conditional conditional)
    (and_from _ _ (eq-eqb (length task.initial) task.facts h.initial)
    (and_from _ _ h.goal h.each))))

-- what can be encoded can be searched
pub wide_task : (task : Task) → is_task task ≡ true → is_wide task ≡ true
wide_task task e = within_wider race_limits wide_limits task (omega arith) (omega arith) (omega arith) e
