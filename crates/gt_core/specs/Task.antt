use Rattle.std.specs.Prelude.{ℕ, ◌+◌, List, [], ◌∷◌, ◌++◌, Bool, length, slice_index_or}
use Rattle.gt_core.specs.Literal.{state_of, range}

-- an effect of an action: its literal comes true where its condition holds
pub record Effect : Type 0 where
  pub condition : List ℕ
  pub literal : ℕ

-- what an action needs, and what it does
pub record Action : Type 0 where
  pub precondition : List ℕ
  pub effects : List Effect

-- a grounded task: how many facts there are, the initial state, the goal (hopeless where nothing reaches it), and the actions
pub record Task : Type 0 where
  pub facts : ℕ
  pub initial : List Bool
  pub goal : List ℕ
  pub hopeless : Bool
  pub actions : List Action

-- an effect beside the number of its action
pub record EffectOf : Type 0 where
  pub action : ℕ
  pub condition : List ℕ
  pub literal : ℕ

-- the effects of one action
abbrev pub owned : ℕ → List Effect → List EffectOf
owned a [] = []
owned a (e ∷ es) = record { action = a; condition = e.condition; literal = e.literal } ∷ owned a es

-- the effects of actions that are numbered from a first one on
abbrev pub effects_from : ℕ → List Action → List EffectOf
effects_from a [] = []
effects_from a (x ∷ xs) = owned a x.effects ++ effects_from (a + 1) xs

-- all effects of a task, action by action
abbrev pub effects : Task → List EffectOf
effects task = effects_from 0 task.actions

-- an action of a task; past the last, one that does nothing
abbrev pub action : Task → ℕ → Action
action task a = slice_index_or task.actions a (record { precondition = []; effects = [] })

-- the precondition of an action
abbrev pub precondition : Task → ℕ → List ℕ
precondition task a = (action task a).precondition

-- the numbers of all actions, rising
abbrev pub action_numbers : Task → List ℕ
action_numbers task = range (length task.actions)

-- the initial values as a state
abbrev pub initial_state : Task → ℕ → Bool
initial_state task = state_of task.initial
