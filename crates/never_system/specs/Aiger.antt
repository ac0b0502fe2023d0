-- A task as a transition system, in the ASCII form of the And-Inverter Graph format AIGER 1.9 (Biere, Heljanko and Wieringa 2011): inputs,
-- latches, and gates that each join two wires by an and. Variables are numbered from 1: inputs, then latches, then gates. Wire 2v is
-- variable v, wire 2v + 1 its negation, wire 0 is false and wire 1 true.
use Rattle.std.specs.Prelude.{ℕ, zero, suc, ◌+◌, ◌*◌, ◌/◌, ◌%◌, ◌^◌, ◌==◌, min, max, List, [], ◌∷◌, ◌++◌, codes, decimal, if◌then◌else◌}
use Rattle.gt_core.specs.Literal.{opposite, holds}
use Rattle.gt_core.specs.Task.{Effect, Action, Task, initial_state}
use Rattle.never_system.specs.Blif.{numbered, name, width_of}

-- a circuit so far: how many variables stand before its gates, how many gates it has and their text, each effect's literal beside the
-- wire that is true where the effect is active, and the text of the latches
pub record Circuit : Type 0 where
  pub before : ℕ
  pub count : ℕ
  pub gates : List ℕ
  pub makers : List (ℕ × ℕ)
  pub latches : List ℕ

-- one without gates
unfoldable pub begun : (before : ℕ) → Circuit
begun before = record { before = before; count = 0; gates = []; makers = []; latches = [] }

-- the wire of the next gate
unfoldable pub next_wire : Circuit → ℕ
next_wire c = 2 * (c.before + c.count + 1)

-- a number and a blank
unfoldable pub word : ℕ → List ℕ
word number = decimal number ++ 32 ∷ []

-- a number at the end of a line
unfoldable pub last_word : ℕ → List ℕ
last_word number = decimal number ++ 10 ∷ []

-- the text of a gate: its wire and the two that it joins, the greater first
unfoldable pub gate : (wire x y : ℕ) → List ℕ
gate wire x y = word wire ++ (word (max x y) ++ last_word (min x y))

-- a gate more, which joins two wires
unfoldable pub with_gate : Circuit → (x y : ℕ) → Circuit
with_gate c x y =
    record { before = c.before; count = c.count + 1; gates = c.gates ++ gate (next_wire c) x y; makers = c.makers; latches = c.latches }

-- gates that join one wire after another to a first one
abbrev pub join : Circuit → (first : ℕ) → List ℕ → Circuit
join c x [] = c
join c x (y ∷ ys) = join (with_gate c x y) (next_wire c) ys

-- the wire that is true where the first one and all the others are
abbrev pub joined : Circuit → (first : ℕ) → List ℕ → ℕ
joined c x [] = x
joined c x (y ∷ ys) = joined (with_gate c x y) (next_wire c) ys

-- the wire of a literal: latches come after so many inputs
unfoldable pub wire : (width literal : ℕ) → ℕ
wire width l = 2 * (width + 1) + l

-- the wires of literals
abbrev pub wires : (width : ℕ) → List ℕ → List ℕ
wires width [] = []
wires width (l ∷ ls) = wire width l ∷ wires width ls

-- the wire that is true where an input has a bit of a number
unfoldable pub bit_wire : (number place : ℕ) → List ℕ
bit_wire number place = (2 * (place + 1) + (if number / 2 ^ place % 2 == 0 then 1 else 0)) ∷ []

-- what has to be true for an action to run: the inputs spell its number, and its precondition holds
unfoldable pub needed : (width number : ℕ) → Action → List ℕ
needed width number x = numbered (bit_wire number) width ++ wires width x.precondition

-- an effect's literal and wire more
unfoldable pub with_maker : Circuit → (literal wire : ℕ) → Circuit
with_maker c l w =
    record { before = c.before; count = c.count; gates = c.gates; makers = c.makers ++ (l, w) ∷ []; latches = c.latches }

-- an effect is active where its action runs and its condition holds
unfoldable pub with_effect : (width run : ℕ) → Circuit → Effect → Circuit
with_effect width run c e = with_maker (join c run (wires width e.condition)) e.literal (joined c run (wires width e.condition))

-- all effects of an action
abbrev pub with_effects : (width run : ℕ) → Circuit → List Effect → Circuit
with_effects width run c [] = c
with_effects width run c (e ∷ es) = with_effects width run (with_effect width run c e) es

-- an action and its effects
unfoldable pub with_action : (width number : ℕ) → Circuit → Action → Circuit
with_action width number c x = with_effects width (joined c 1 (needed width number x)) (join c 1 (needed width number x)) x.effects

-- actions from a number on
abbrev pub with_actions : (width number : ℕ) → Circuit → List Action → Circuit
with_actions width number c [] = c
with_actions width number c (x ∷ xs) = with_actions width (number + 1) (with_action width number c x) xs

-- the negated wires of the effects with a literal
abbrev pub unmade : (literal : ℕ) → List (ℕ × ℕ) → List ℕ
unmade l [] = []
unmade l (m ∷ ms) = (if m.0 == l then opposite m.1 ∷ [] else []) ++ unmade l ms

-- the line of a latch: its wire, that of its next value, and its initial value
unfoldable pub latch_line : Task → (width fact next : ℕ) → List ℕ
latch_line task width fact next =
    word (wire width (2 * fact)) ++ (word next ++ (if holds (initial_state task) (2 * fact) then codes "1\n" else codes "0\n"))

-- a latch more
unfoldable pub with_latch : Circuit → List ℕ → Circuit
with_latch c line =
    record { before = c.before; count = c.count; gates = c.gates; makers = c.makers; latches = c.latches ++ line }

-- gates that say that a fact is true and not deleted
unfoldable pub with_kept : (width fact : ℕ) → Circuit → Circuit
with_kept width fact c = join c (wire width (2 * fact)) (unmade (2 * fact + 1) c.makers)

-- their wire
unfoldable pub kept : (width fact : ℕ) → Circuit → ℕ
kept width fact c = joined c (wire width (2 * fact)) (unmade (2 * fact + 1) c.makers)

-- gates that say that a fact is false next: it is not kept, and no effect adds it
unfoldable pub with_lost : (width fact : ℕ) → Circuit → Circuit
with_lost width fact c = join (with_kept width fact c) (opposite (kept width fact c)) (unmade (2 * fact) c.makers)

-- their wire
unfoldable pub lost : (width fact : ℕ) → Circuit → ℕ
lost width fact c = joined (with_kept width fact c) (opposite (kept width fact c)) (unmade (2 * fact) c.makers)

-- a fact: the gates of its next value, and its latch
unfoldable pub with_fact : Task → (width fact : ℕ) → Circuit → Circuit
with_fact task width fact c = with_latch (with_lost width fact c) (latch_line task width fact (opposite (lost width fact c)))

-- so many facts from one on
abbrev pub with_facts : Task → (width more fact : ℕ) → Circuit → Circuit
with_facts task width zero fact c = c
with_facts task width (suc more) fact c = with_facts task width more (fact + 1) (with_fact task width fact c)

-- the circuit of a task but for its goal
unfoldable pub circuit_of : Task → Circuit
circuit_of task =
    with_facts task (width_of task) task.facts 0 (with_actions (width_of task) 0 (begun (width_of task + task.facts)) task.actions)

-- gates that say that the goal holds
unfoldable pub with_goal : Task → Circuit → Circuit
with_goal task c = if task.hopeless then c else join c 1 (wires (width_of task) task.goal)

-- their wire; a goal that is hopeless never holds
unfoldable pub goal_wire : Task → Circuit → ℕ
goal_wire task c = if task.hopeless then 0 else joined c 1 (wires (width_of task) task.goal)

-- the first line: the greatest number of a variable, then how many inputs, latches, outputs, gates and bad states there are
unfoldable pub first_line : (width facts : ℕ) → Circuit → List ℕ
first_line width facts c =
    codes "aag " ++ (word (c.before + c.count) ++ (word width ++ (word facts ++ (codes "0 " ++ (word c.count ++ codes "1\n")))))

-- the line of an input
unfoldable pub input_line : ℕ → List ℕ
input_line bit = last_word (2 * (bit + 1))

-- the line of the table of names about an input or a latch: its letter, its number from 0 on, and its name
unfoldable pub symbol : (letter named number : ℕ) → List ℕ
symbol letter named number = letter ∷ (decimal number ++ (name named number ++ 10 ∷ []))

-- the table of names: bits and facts as the other text names them, and the goal
unfoldable pub symbols : (width facts : ℕ) → List ℕ
symbols width facts = numbered (symbol 105 98) width ++ (numbered (symbol 108 118) facts ++ codes "b0 goal\n")

-- the text of a circuit whose bad states are those where a wire is true
unfoldable pub circuit_text : (width facts goal : ℕ) → Circuit → List ℕ
circuit_text width facts goal c =
    first_line width facts c ++ (numbered input_line width ++ (c.latches ++ (last_word goal ++ (c.gates ++ symbols width facts))))

-- the whole text
unfoldable pub aiger : Task → List ℕ
aiger task =
    circuit_text (width_of task) task.facts (goal_wire task (circuit_of task)) (with_goal task (circuit_of task))
