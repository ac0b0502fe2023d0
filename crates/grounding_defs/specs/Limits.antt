-- The limits of grounding, in the order in which they are tested.
use Rattle.std.specs.Prelude.{ℕ, ◌≡◌, ◌<◌, ◌≤◌, length}
use Rattle.gt_core.specs.Lawful.{conditional_in}
use Rattle.gt_core.specs.Limits.{most_wide_facts, most_wide_actions, most_wide_conditional, race_limits, wide_limits}
use Rattle.gt_core.specs.declared.limits.Limits.{Limits}
use Rattle.pd_model.specs.declared.parts.Parts.{Parts}
use Rattle.grounding_defs.specs.Grounded.{Grounded, IsGrounded}
use Rattle.grounding_defs.specs.Tuples.{tuples_in, saturated}

-- how many tuples a task may have that is encoded
abbrev pub most_tuples : ℕ
most_tuples = 4000000

-- how many tuples a task may have from which states are searched
abbrev pub most_wide_tuples : ℕ
most_wide_tuples = 1000000000000000000

-- the limit on tuples and those of the task
pub record Bounds : Type 0 where
  pub tuples : ℕ
  pub task : Limits

-- the limits of what is encoded
abbrev pub race_bounds : Bounds
race_bounds = record { tuples = most_tuples; task = race_limits }

-- the limits of what is searched state by state
abbrev pub wide_bounds : Bounds
wide_bounds = record { tuples = most_wide_tuples; task = wide_limits }

-- limits that are nowhere wider than those of what is searched
pub record AreBounds (bounds : Bounds) : Type 0 where
  pub tuples : bounds.tuples ≤ most_wide_tuples
  pub facts : bounds.task.facts ≤ most_wide_facts
  pub actions : bounds.task.actions ≤ most_wide_actions
  pub conditional : bounds.task.conditional ≤ most_wide_conditional

-- within all limits
pub record IsBounded (bounds : Bounds) (p : Parts) (g : Grounded) : Type 0 where
  pub tuples : tuples_in p ≤ bounds.tuples
  pub facts : length g.facts ≤ bounds.task.facts
  pub actions : length g.calls ≤ bounds.task.actions
  pub effects : conditional_in g.task.actions ≤ bounds.task.conditional

-- the task has more tuples than the limit says, so many
pub record HasTuples (bounds : Bounds) (p : Parts) (count : ℕ) : Type 0 where
  pub over : bounds.tuples < tuples_in p
  pub count_is : count ≡ saturated (tuples_in p)

-- the tuples are within their limit, and there are too many facts, so many
pub record HasFacts (bounds : Bounds) (p : Parts) (count : ℕ) : Type 0 where
  pub grounded : Grounded
  pub is : IsGrounded p grounded
  pub tuples : tuples_in p ≤ bounds.tuples
  pub over : bounds.task.facts < length grounded.facts
  pub count_is : count ≡ length grounded.facts

-- tuples and facts are within their limits, and there are too many actions, so many
pub record HasActions (bounds : Bounds) (p : Parts) (count : ℕ) : Type 0 where
  pub grounded : Grounded
  pub is : IsGrounded p grounded
  pub tuples : tuples_in p ≤ bounds.tuples
  pub facts : length grounded.facts ≤ bounds.task.facts
  pub over : bounds.task.actions < length grounded.calls
  pub count_is : count ≡ length grounded.calls

-- tuples, facts and actions are within their limits, and there are too many effects with a condition, so many
pub record HasEffects (bounds : Bounds) (p : Parts) (count : ℕ) : Type 0 where
  pub grounded : Grounded
  pub is : IsGrounded p grounded
  pub tuples : tuples_in p ≤ bounds.tuples
  pub facts : length grounded.facts ≤ bounds.task.facts
  pub actions : length grounded.calls ≤ bounds.task.actions
  pub over : bounds.task.conditional < conditional_in grounded.task.actions
  pub count_is : count ≡ saturated (conditional_in grounded.task.actions)

-- within the limits of what is encoded
abbrev pub IsWithin : Parts → Grounded → Type 0
IsWithin p g = IsBounded race_bounds p g

-- past the limit on tuples
abbrev pub IsOverTuples : Parts → ℕ → Type 0
IsOverTuples p count = HasTuples race_bounds p count

-- past the limit on facts
abbrev pub IsOverFacts : Parts → ℕ → Type 0
IsOverFacts p count = HasFacts race_bounds p count

-- past the limit on actions
abbrev pub IsOverActions : Parts → ℕ → Type 0
IsOverActions p count = HasActions race_bounds p count

-- past the limit on effects with a condition
abbrev pub IsOverEffects : Parts → ℕ → Type 0
IsOverEffects p count = HasEffects race_bounds p count
