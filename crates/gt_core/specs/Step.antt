use Rattle.std.specs.Prelude.{◌≡◌, ℕ, ◌+◌, ◌<◌, List, Bool, true, false, not, ◌&&◌, ◌||◌}
use Rattle.std.specs.List.{list_any, filter, flat_map}
use Rattle.gt_core.specs.Literal.{range}
use Rattle.gt_core.specs.Task.{Task, action_numbers, initial_state}
use Rattle.gt_core.specs.Execution.{gains, loses, Runs, IsGoal}
use Rattle.gt_core.specs.Interference.{disables}
use Rattle.gt_core.specs.Published.{Pairwise}

-- a member gains a fact
abbrev pub gained : Task → (ℕ → Bool) → (ℕ → Bool) → ℕ → Bool
gained task s members f = list_any (λ a. members a && gains task s a f) (action_numbers task)

-- a member loses a fact
abbrev pub lost : Task → (ℕ → Bool) → (ℕ → Bool) → ℕ → Bool
lost task s members f = list_any (λ a. members a && loses task s a f) (action_numbers task)

-- a state less all losses of the members, with all their gains
abbrev pub next : Task → (ℕ → Bool) → (ℕ → Bool) → ℕ → Bool
next task s members f = gained task s members f || (s f && not (lost task s members f))

-- A step from one state to another is a set of actions, each of which can run, no gain of one a loss of another,
-- and none of which disables a later member in the order (exists-steps of Rintanen, Heljanko and Niemelä 2006,
-- with one fixed order of the actions).
pub record IsStep (task : Task) (order : List ℕ) (s : ℕ → Bool) (members : ℕ → Bool) (t : ℕ → Bool) : Type 0 where
  pub runs : (a : ℕ) → members a ≡ true → Runs task s a
  pub no_clash : (a b f : ℕ) → members a ≡ true → members b ≡ true → gains task s a f ≡ true → loses task s b f ≡ true → ⊥
  pub ordered : Pairwise (λ a b. members a ≡ true → members b ≡ true → disables task a b ≡ false) order
  pub after : (f : ℕ) → f < task.facts → t f ≡ next task s members f

-- the sets of a step plan lead through these states
abbrev pub LeadsThrough : Task → List ℕ → (ℕ → ℕ → Bool) → (ℕ → ℕ → Bool) → ℕ → Type 0
LeadsThrough task order states steps n = (t : ℕ) → t < n → IsStep task order (states t) (steps t) (states (t + 1))

-- a step plan of n steps: n sets whose steps lead from the initial state to a goal state; none where the goal is hopeless
pub record IsStepPlan (task : Task) (order : List ℕ) (steps : ℕ → ℕ → Bool) (n : ℕ) : Type 0 where
  pub states : ℕ → ℕ → Bool
  pub begins : (f : ℕ) → f < task.facts → states 0 f ≡ initial_state task f
  pub leads : LeadsThrough task order states steps n
  pub reaches : IsGoal task (states n)

-- the members of the first n sets, each set in the order
abbrev pub sequence_of : List ℕ → (ℕ → ℕ → Bool) → ℕ → List ℕ
sequence_of order steps n = flat_map (λ t. filter (steps t) order) (range n)
