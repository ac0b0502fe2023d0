-- The task of a corridor: rooms in a row, and a walk from the first to the last.
use Rattle.std.specs.Prelude.{ℕ, ◌+◌, List, [], ◌++◌, codes, decimal, zero, suc}
use Rattle.plan_gen.specs.Head.{head}

-- The domain, the same for every number.
abbrev pub corridor_domain : List ℕ
corridor_domain =
    codes "(define (domain corridor)\n"
    ++ codes "(:predicates (in ?r) (door ?a ?b))\n"
    ++ codes "(:action walk :parameters (?a ?b)\n"
    ++ codes ":precondition (and (in ?a) (door ?a ?b))\n"
    ++ codes ":effect (and (in ?b) (not (in ?a)))))\n"

-- A door from the room of one number to the room of another, with a blank before it.
abbrev pub door : (from to : ℕ) → List ℕ
door from to = codes " (door r" ++ decimal from ++ codes " r" ++ decimal to ++ codes ")"

-- The doors between each room and the next, this way first, for as many rooms as count says, from room 0 on.
abbrev pub doors : (count : ℕ) → List ℕ
doors zero = []
doors (suc count) = doors count ++ door count (count + 1) ++ door (count + 1) count

-- The problem's head: its name, the domain's, and the objects, rooms 0 to number.
abbrev pub corridor_head : (number : ℕ) → List ℕ
corridor_head number = head (codes "corridor") (codes "r0") (codes " r") [] number

-- The initial state: the walker is in room 0, and each room has doors to its neighbours.
abbrev pub corridor_init : (number : ℕ) → List ℕ
corridor_init number = codes "(:init (in r0)" ++ doors number ++ codes ")\n"

-- The goal, with the end of the problem: the walker is in the last room.
abbrev pub corridor_goal : (number : ℕ) → List ℕ
corridor_goal number = codes "(:goal (in r" ++ decimal number ++ codes ")))\n"

-- The problem.
abbrev pub corridor_problem : (number : ℕ) → List ℕ
corridor_problem number = corridor_head number ++ corridor_init number ++ corridor_goal number
