use Rattle.std.specs.Prelude.{◌≡◌, ℕ, ◌+◌, ◌*◌, ◌<◌, List, [], ◌∷◌, Bool, true, false, not, ◌&&◌, ◌||◌, map, length}
use Rattle.std.specs.List.{list_any}
use Rattle.gt_core.specs.Literal.{all_hold, range}
use Rattle.gt_core.specs.Task.{Action, Task, action, precondition}
use Rattle.gt_core.specs.Active.{is_active}

-- Execution as in PDDL 2.1, level 1 (Fox and Long 2003): effects read the state before, and an add wins over a
-- delete of the same action.

-- an action makes a literal true: an effect of it has this literal, and its condition holds
abbrev pub action_makes : (ℕ → Bool) → Action → ℕ → Bool
action_makes s x l = list_any (is_active s l) x.effects

-- an action gains a fact
abbrev pub action_gains : (ℕ → Bool) → Action → ℕ → Bool
action_gains s x f = action_makes s x (2 * f)

-- an action loses a fact: it deletes it and does not gain it
abbrev pub action_loses : (ℕ → Bool) → Action → ℕ → Bool
action_loses s x f = action_makes s x (2 * f + 1) && not (action_gains s x f)

-- the same of the numbered actions of a task
abbrev pub makes : Task → (ℕ → Bool) → ℕ → ℕ → Bool
makes task s a l = action_makes s (action task a) l

-- the action of this number gains a fact
abbrev pub gains : Task → (ℕ → Bool) → ℕ → ℕ → Bool
gains task s a f = action_gains s (action task a) f

-- the action of this number loses a fact
abbrev pub loses : Task → (ℕ → Bool) → ℕ → ℕ → Bool
loses task s a f = action_loses s (action task a) f

-- the state after one action: the state before, less what is lost, with what is gained
abbrev pub next_of_one : Task → (ℕ → Bool) → ℕ → ℕ → Bool
next_of_one task s a f = gains task s a f || (s f && not (loses task s a f))

-- the same as a list of truth values, one a fact
abbrev pub next_values : Task → (ℕ → Bool) → ℕ → List Bool
next_values task s a = map (next_of_one task s a) (range task.facts)

-- it is an action, and its precondition holds
pub record Runs (task : Task) (s : ℕ → Bool) (a : ℕ) : Type 0 where
  pub action : a < length task.actions
  pub able : all_hold s (precondition task a) ≡ true

-- each action can run when its turn comes
abbrev pub CanRun : Task → (ℕ → Bool) → List ℕ → Type 0
CanRun task s [] = Unit {0}
CanRun task s (a ∷ rest) = Runs task s a × CanRun task (next_of_one task s a) rest

-- the state after actions, one after the other
abbrev pub run : Task → (ℕ → Bool) → List ℕ → ℕ → Bool
run task s [] = s
run task s (a ∷ rest) = run task (next_of_one task s a) rest

-- the goal holds, and is not hopeless
pub record IsGoal (task : Task) (s : ℕ → Bool) : Type 0 where
  pub hopeful : task.hopeless ≡ false
  pub reached : all_hold s task.goal ≡ true
