use Rattle.std.proofs.Common.{arith, ◌≡◌, ℕ, zero, suc, ◌/◌, ◌<◌, List, [], ◌∷◌, length, refl, ◌⊎◌, inl, inr}
use Rattle.std.specs.Prelude.{slice_index_or}
use Rattle.gt_core.specs.Task.{Action, Task, EffectOf, effects, precondition}
use Rattle.gt_core.proofs.published.Basics.{Among}

-- What it is for the numbers of a task, its known pairs and its chains to be in range.

-- each effect's fact is one of the task's
abbrev pub HasFacts : Task → Type 0
HasFacts task = (e : EffectOf) → Among e (effects task) → e.literal / 2 < task.facts

-- the precondition of an action from a list of them; past the last, none
abbrev pub precondition_in : List Action → ℕ → List ℕ
precondition_in xs k = (slice_index_or xs k (record { precondition = []; effects = [] })).precondition

-- all numbers of a task and its chains are in range
pub record IsInRange (task : Task) (pairs : List (ℕ × ℕ)) (places : List (List ℕ × ℕ)) : Type 0 where
  pub effect_facts : HasFacts task
  pub effect_actions : (e : EffectOf) → Among e (effects task) → e.action < length task.actions
  pub conditions : (e : EffectOf) → Among e (effects task) → (c : ℕ) → Among c e.condition → c / 2 < task.facts
  pub preconditions : (a l : ℕ) → Among l (precondition task a) → l / 2 < task.facts
  pub goals : (l : ℕ) → Among l task.goal → l / 2 < task.facts
  pub known : (p : ℕ × ℕ) → Among p pairs → (p.0 / 2 < task.facts) × (p.1 / 2 < task.facts)
  pub members : (p : List ℕ × ℕ) → Among p places → (a : ℕ) → Among a p.0 → a < length task.actions

-- no action past the last has a precondition
pub past : (xs : List Action) (a : ℕ) → (a < length xs) ⊎ (precondition_in xs a ≡ [])
past [] a = inr refl
past (x ∷ xs) zero = inl (omega arith)
past (x ∷ xs) (suc a) = elim (past xs a) [ inl h ↦ inl (omega arith) | inr h ↦ inr h ]
