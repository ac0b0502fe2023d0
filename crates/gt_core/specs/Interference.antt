use Rattle.std.specs.Prelude.{◌≡◌, ℕ, ◌+◌, ◌*◌, ◌/◌, ◌==◌, List, Bool, true, not, ◌&&◌, ◌||◌, length}
use Rattle.std.specs.List.{list_any, AllByRecursion}
use Rattle.gt_core.specs.Literal.{opposite, is_in, holds}
use Rattle.gt_core.specs.Task.{Action, Task, action, precondition}

-- What actions do to each other: first over the actions themselves, then over the numbered actions of a task.

-- an action needs a literal
abbrev pub action_needs : Action → ℕ → Bool
action_needs x l = is_in x.precondition l

-- an action has a fact in an effect condition
abbrev pub action_asks : Action → ℕ → Bool
action_asks x f = list_any (λ e. list_any (λ c. c / 2 == f) e.condition) x.effects

-- an action has an effect with this literal
abbrev pub action_may_make : Action → ℕ → Bool
action_may_make x l = list_any (λ e. e.literal == l) x.effects

-- one action disables another: an effect of it takes a precondition of the other, or has the fact of a literal in
-- an effect condition of the other (Rintanen, Heljanko and Niemelä 2006)
abbrev pub action_disables : Action → Action → Bool
action_disables x y = list_any (λ e. action_needs y (opposite e.literal) || action_asks y (e.literal / 2)) x.effects

-- an action has an effect without condition that makes a literal true
abbrev pub action_surely_makes : Action → ℕ → Bool
action_surely_makes x l = list_any (λ e. (e.literal == l) && (length e.condition == 0)) x.effects

-- a sure gain: a fact that the action adds without condition
abbrev pub action_surely_gains : Action → ℕ → Bool
action_surely_gains x f = action_surely_makes x (2 * f)

-- a sure loss: a fact that the action deletes without condition, and that no effect of it adds
abbrev pub action_surely_loses : Action → ℕ → Bool
action_surely_loses x f = action_surely_makes x (2 * f + 1) && not (action_may_make x (2 * f))

-- some fact is a sure gain of the one and a sure loss of the other
abbrev pub actions_clash : Action → Action → Bool
actions_clash x y = list_any (λ e. action_surely_gains x (e.literal / 2) && action_surely_loses y (e.literal / 2)) x.effects

-- Known clauses: each a pair of literals of which one holds in every state that actions reach; one literal by
-- itself stands twice.

-- the clause of two literals is known
abbrev pub has_clause : List (ℕ × ℕ) → ℕ → ℕ → Bool
has_clause clauses l m = list_any (λ c. ((c.0 == l) && (c.1 == m)) || ((c.0 == m) && (c.1 == l))) clauses

-- a state in which each known clause holds
abbrev pub Knows : List (ℕ × ℕ) → (ℕ → Bool) → Type 0
Knows clauses s = AllByRecursion (λ c. (holds s c.0 || holds s c.1) ≡ true) clauses

-- two literals never hold together, as far as is known
abbrev pub exclusive : List (ℕ × ℕ) → ℕ → ℕ → Bool
exclusive clauses p q =
    (q == opposite p) || (has_clause clauses (opposite p) (opposite q)
    || (has_clause clauses (opposite p) (opposite p) || has_clause clauses (opposite q) (opposite q)))

-- two actions may share a step, as far as is known: their preconditions do not exclude each other, and neither
-- surely gains what the other surely loses
abbrev pub actions_together : List (ℕ × ℕ) → Action → Action → Bool
actions_together clauses x y =
    not (list_any (λ p. list_any (exclusive clauses p) y.precondition) x.precondition)
    && (not (actions_clash x y) && not (actions_clash y x))

-- The same of the numbered actions of a task. An action does not disable itself.

-- an action has a fact in an effect condition
abbrev pub asks : Task → ℕ → ℕ → Bool
asks task a f = action_asks (action task a) f

-- one action disables another one
abbrev pub disables : Task → ℕ → ℕ → Bool
disables task a b = not (a == b) && action_disables (action task a) (action task b)

-- an action has an effect with this literal
abbrev pub may_make : Task → ℕ → ℕ → Bool
may_make task a l = action_may_make (action task a) l

-- an action makes a literal true by an effect without condition
abbrev pub surely_makes : Task → ℕ → ℕ → Bool
surely_makes task a l = action_surely_makes (action task a) l

-- an action surely gains a fact
abbrev pub surely_gains : Task → ℕ → ℕ → Bool
surely_gains task a f = action_surely_gains (action task a) f

-- an action surely loses a fact
abbrev pub surely_loses : Task → ℕ → ℕ → Bool
surely_loses task a f = action_surely_loses (action task a) f

-- some fact is a sure gain of the one and a sure loss of the other
abbrev pub surely_clash : Task → ℕ → ℕ → Bool
surely_clash task a b = actions_clash (action task a) (action task b)

-- two actions may share a step, as far as is known
abbrev pub together : Task → List (ℕ × ℕ) → ℕ → ℕ → Bool
together task clauses a b = actions_together clauses (action task a) (action task b)

-- the graph of the published order: an edge leads from a to b where a disables b and both may share a step
abbrev pub has_edge : Task → List (ℕ × ℕ) → ℕ → ℕ → Bool
has_edge task clauses a b = disables task a b && together task clauses a b

-- an effect of the action takes a literal away
abbrev pub takes : Task → ℕ → ℕ → Bool
takes task m a = may_make task a (opposite m)

-- the action reads a literal: in its precondition, or as a fact of an effect condition
abbrev pub reads : Task → ℕ → ℕ → Bool
reads task m a = is_in (precondition task a) m || asks task a (m / 2)
