-- Pairs of literals that each action keeps, as a look at the action alone shows.
use Rattle.std.specs.Prelude.{ℕ, Bool, not, ◌&&◌, ◌||◌}
use Rattle.std.specs.List.{list_all}
use Rattle.gt_core.specs.Literal.{opposite, holds}
use Rattle.gt_core.specs.Task.{Action, Task, initial_state}
use Rattle.gt_core.specs.Interference.{action_needs, action_may_make, action_surely_makes}

-- after an action a literal surely holds: nothing takes it, and the action needs it or surely makes it true
abbrev pub secures : Action → ℕ → Bool
secures x l = not (action_may_make x (opposite l)) && (action_needs x l || action_surely_makes x l)

-- where an action may take one literal of a pair, it secures the other
abbrev pub keeps : Action → ℕ × ℕ → Bool
keeps x p = (not (action_may_make x (opposite p.0)) || secures x p.1) && (not (action_may_make x (opposite p.1)) || secures x p.0)

-- a literal of the pair holds at first, and each action keeps it
abbrev pub is_kept : Task → ℕ × ℕ → Bool
is_kept task p = (holds (initial_state task) p.0 || holds (initial_state task) p.1) && list_all (λ x. keeps x p) task.actions
