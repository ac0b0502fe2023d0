-- What is left of literals, effects and actions once every literal that is always true or never true is taken out.
-- The facts are given as a list; the number of a fact is its place there. Of the other atoms the initial ones are
-- constant and the rest are not reachable.
use Rattle.std.specs.Prelude.{ℕ, suc, ◌+◌, ◌*◌, List, [], ◌∷◌, Bool, true, false, not, ◌&&◌, map, filter_map, length, nat_lt, Option, Some, None, if◌then◌else◌}
use Rattle.std.specs.List.{filter, list_any}
use Rattle.gt_core.specs.Lawful.{effect_less}
use Rattle.gt_core.specs.Task.{Effect, Action, Task}
use Rattle.pd_model.specs.State.{is_in, same_atom}
use Rattle.pd_model.specs.declared.atoms.Atom.{Atom}
use Rattle.pd_model.specs.declared.calls.Call.{Call}
use Rattle.pd_model.specs.declared.parts.Parts.{Parts}
use Rattle.grounding_defs.specs.Instance.{GroundLiteral, Holds, Fixed, Change, Instance, instance_of, goal_of}
use Rattle.grounding_defs.specs.Sorted.{sorted_set}

-- the place of an atom in a list
abbrev pub place : List Atom → Atom → ℕ
place [] a = 0
place (b ∷ atoms) a = if same_atom a b then 0 else suc (place atoms a)

-- the place of an atom, where the list has it
abbrev pub place_in : List Atom → Atom → Option ℕ
place_in atoms a = if is_in a atoms then Some (place atoms a) else None

-- the fact literal of a fact: 2f says that fact f is true, 2f + 1 that it is false
abbrev pub fact_literal : List Atom → Atom → Bool → ℕ
fact_literal facts a true = 2 * place facts a
fact_literal facts a false = 2 * place facts a + 1

-- the fact literal of a literal, where its atom is a fact
abbrev pub number_of : List Atom → GroundLiteral → Option ℕ
number_of facts (Holds a want) = if is_in a facts then Some (fact_literal facts a want) else None
number_of facts (Fixed truth) = None

-- the fact literals of literals, in order, each once
abbrev pub simplified : List Atom → List GroundLiteral → List ℕ
simplified facts literals = sorted_set nat_lt (filter_map (number_of facts) literals)

-- a literal is never true: it wants an atom that is not reachable, or a constant one to be false, or is a false equation
abbrev pub is_never : Parts → List Atom → GroundLiteral → Bool
is_never p facts (Holds a true) = not (is_in a facts) && not (is_in a p.init)
is_never p facts (Holds a false) = not (is_in a facts) && is_in a p.init
is_never p facts (Fixed truth) = not truth

-- some literal is never true
abbrev pub any_never : Parts → List Atom → List GroundLiteral → Bool
any_never p facts literals = list_any (is_never p facts) literals

-- an effect is left: its atom is a fact, and no literal of its condition is never true
abbrev pub is_left : Parts → List Atom → Change → Bool
is_left p facts e = is_in e.atom facts && not (any_never p facts e.condition)

-- the effect of a change: the literal of its atom's fact, under what is left of its condition
abbrev pub effect_of : List Atom → Change → Effect
effect_of facts e = record { condition = simplified facts e.condition; literal = fact_literal facts e.atom e.adds }

-- the action of an instance
abbrev pub action_of : Parts → List Atom → Instance → Action
action_of p facts i = record {
  precondition = simplified facts i.precondition;
  effects = sorted_set effect_less (map (effect_of facts) (filter (is_left p facts) i.changes));
}

-- the truth of each fact in a state
abbrev pub values_in : List Atom → List Atom → List Bool
values_in facts s = map (λ a. is_in a s) facts

-- the task of these facts and calls
abbrev pub task_of : Parts → List Atom → List Call → Task
task_of p facts calls = record {
  facts = length facts;
  initial = values_in facts p.init;
  goal = simplified facts (goal_of p);
  hopeless = any_never p facts (goal_of p);
  actions = map (λ c. action_of p facts (instance_of p c)) calls;
}
