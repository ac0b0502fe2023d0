-- A task as a transition system, in the Berkeley Logic Interchange Format: tables with named inputs and one output, and latches. A line
-- of a table says for which values of the inputs, one character each, the output has the value at the end of the line.
use Rattle.std.specs.Prelude.{ℕ, zero, suc, ◌+◌, ◌*◌, ◌/◌, ◌%◌, ◌^◌, ◌==◌, List, [], ◌∷◌, ◌++◌, length, nat_le, codes, decimal, if◌then◌else◌}
use Rattle.std.specs.List.{flat_map, range_with_len}
use Rattle.gt_core.specs.Literal.{holds}
use Rattle.gt_core.specs.Task.{Effect, Action, Task, initial_state}

-- the texts of so many numbers, from 0 on
abbrev pub numbered : (ℕ → List ℕ) → ℕ → List ℕ
numbered text count = flat_map text (range_with_len 0 count)

-- a blank, a letter, and a number and one: bit `b`, action `a`, effect `e`, fact `v`, that a fact is added `g` or deleted `d`, and its next
-- value `n`
unfoldable pub name : (letter number : ℕ) → List ℕ
name letter number = 32 ∷ letter ∷ decimal (number + 1)

-- the name of an effect: its action's number and its place there
unfoldable pub place_name : (act place : ℕ) → List ℕ
place_name act place = name 101 act ++ 95 ∷ decimal (place + 1)

-- the names of the facts of literals
abbrev pub fact_names : List ℕ → List ℕ
fact_names [] = []
fact_names (l ∷ ls) = name 118 (l / 2) ++ fact_names ls

-- what literals ask for: 1 where a fact is true, 0 where it is false
abbrev pub pattern : List ℕ → List ℕ
pattern [] = []
pattern (l ∷ ls) = (if l % 2 == 0 then 49 else 48) ∷ pattern ls

-- the names of so many inputs
abbrev pub bit_names : ℕ → List ℕ
bit_names width = numbered (name 98) width

-- a bit of a number
unfoldable pub bit : (number place : ℕ) → List ℕ
bit number place = (if number / 2 ^ place % 2 == 0 then 48 else 49) ∷ []

-- so many bits of a number, the lowest first
abbrev pub bits : (width number : ℕ) → List ℕ
bits width number = numbered (bit number) width

-- when an action runs: the inputs spell its number, and its precondition holds
unfoldable pub action_table : (width number : ℕ) → Action → List ℕ
action_table width number x =
    codes ".names" ++ (bit_names width ++ (fact_names x.precondition ++ (name 97 number ++ (codes "\n"
    ++ (bits width number ++ (pattern x.precondition ++ codes " 1\n"))))))

-- when an effect is active: its action runs, and its condition holds
unfoldable pub effect_table : (act place : ℕ) → Effect → List ℕ
effect_table act place e =
    codes ".names" ++ (name 97 act ++ (fact_names e.condition ++ (place_name act place ++ (codes "\n1" ++ (pattern e.condition ++ codes " 1\n")))))

-- the same of effects from a place on
abbrev pub effect_tables : (act place : ℕ) → List Effect → List ℕ
effect_tables act place [] = []
effect_tables act place (e ∷ es) = effect_table act place e ++ effect_tables act (place + 1) es

-- the tables of actions from a number on, each followed by those of its effects
abbrev pub action_tables : (width number : ℕ) → List Action → List ℕ
action_tables width number [] = []
action_tables width number (x ∷ xs) = action_table width number x ++ (effect_tables number 0 x.effects ++ action_tables width (number + 1) xs)

-- the names of the effects with a literal, of an action's effects from a place on
abbrev pub maker_names : (literal act place : ℕ) → List Effect → List ℕ
maker_names l act place [] = []
maker_names l act place (e ∷ es) = (if e.literal == l then place_name act place else []) ++ maker_names l act (place + 1) es

-- and of all effects of actions from a number on
abbrev pub all_maker_names : (literal number : ℕ) → List Action → List ℕ
all_maker_names l number [] = []
all_maker_names l number (x ∷ xs) = maker_names l number 0 x.effects ++ all_maker_names l (number + 1) xs

-- a 0 for each of them
abbrev pub maker_zeros : (literal : ℕ) → List Effect → List ℕ
maker_zeros l [] = []
maker_zeros l (e ∷ es) = (if e.literal == l then 48 ∷ [] else []) ++ maker_zeros l es

-- the same of all actions
abbrev pub all_maker_zeros : (literal : ℕ) → List Action → List ℕ
all_maker_zeros l [] = []
all_maker_zeros l (x ∷ xs) = maker_zeros l x.effects ++ all_maker_zeros l xs

-- the one line of a table whose output is false where no input is true; a table without a line is false
unfoldable pub none_line : List ℕ → List ℕ
none_line zeros = if length zeros == 0 then [] else zeros ++ codes " 0\n"

-- when an effect with a literal is active
unfoldable pub maker_table : Task → (letter literal : ℕ) → List ℕ
maker_table task letter l =
    codes ".names" ++ (all_maker_names l 0 task.actions ++ (name letter (l / 2) ++ (codes "\n" ++ none_line (all_maker_zeros l task.actions))))

-- what the next value of a fact stands on, and that value: it is true, added, deleted, and true next
unfoldable pub next_names : ℕ → List ℕ
next_names fact = name 118 fact ++ (name 103 fact ++ (name 100 fact ++ name 110 fact))

-- a fact is true next where it is added, or where it is true and not deleted
unfoldable pub next_table : ℕ → List ℕ
next_table fact = codes ".names" ++ (next_names fact ++ codes "\n-1- 1\n1-0 1\n")

-- the tables of a fact
unfoldable pub fact_tables : Task → ℕ → List ℕ
fact_tables task fact = maker_table task 103 (2 * fact) ++ (maker_table task 100 (2 * fact + 1) ++ next_table fact)

-- the latch of a fact, with its initial value
unfoldable pub latch : Task → ℕ → List ℕ
latch task fact = codes ".latch" ++ (name 110 fact ++ (name 118 fact ++ (if holds (initial_state task) (2 * fact) then codes " 1\n" else codes " 0\n")))

-- when literals hold all
unfoldable pub reached_table : List ℕ → List ℕ
reached_table goal = codes ".names" ++ (fact_names goal ++ (codes " goal\n" ++ (pattern goal ++ codes " 1\n")))

-- when the goal holds; one that is hopeless never does
unfoldable pub goal_table : Task → List ℕ
goal_table task = if task.hopeless then codes ".names goal\n" else reached_table task.goal

-- how many bits the number of an action takes: the fewest, up to 14, by which so many numbers differ
unfoldable pub width_from : (more width count : ℕ) → ℕ
width_from zero width count = width
width_from (suc more) width count = if nat_le count (2 ^ width) then width else width_from more (width + 1) count

-- how many bits the number of an action of the task takes
unfoldable pub width_of : Task → ℕ
width_of task = width_from 14 0 (length task.actions)

-- what stands before the tables: inputs, output and latches
unfoldable pub head : Task → List ℕ
head task =
    codes ".model task\n.inputs" ++ (bit_names (width_of task) ++ (codes "\n.outputs goal\n" ++ numbered (latch task) task.facts))

-- the whole text
unfoldable pub blif : Task → List ℕ
blif task =
    head task ++ (action_tables (width_of task) 0 task.actions ++ (numbered (fact_tables task) task.facts ++ (goal_table task ++ codes ".end\n")))
