-- The task of a gripper: a robot with two grippers that carries balls from one room to another.
use Rattle.std.specs.Prelude.{ℕ, List, ◌++◌, codes}
use Rattle.plan_gen.specs.Numbered.{numbered}
use Rattle.plan_gen.specs.Head.{head}

-- The domain, the same for every number.
abbrev pub gripper_domain : List ℕ
gripper_domain =
    codes "(define (domain gripper)\n"
    ++ codes "(:predicates (room ?r) (ball ?b) (gripper ?g) (at-robby ?r) (at ?b ?r) (free ?g) (carry ?o ?g))\n"
    ++ codes "(:action move :parameters (?from ?to)\n"
    ++ codes ":precondition (and (room ?from) (room ?to) (at-robby ?from))\n"
    ++ codes ":effect (and (at-robby ?to) (not (at-robby ?from))))\n"
    ++ codes "(:action pick :parameters (?obj ?room ?gripper)\n"
    ++ codes ":precondition (and (ball ?obj) (room ?room) (gripper ?gripper) (at ?obj ?room) (at-robby ?room) (free ?gripper))\n"
    ++ codes ":effect (and (carry ?obj ?gripper) (not (at ?obj ?room)) (not (free ?gripper))))\n"
    ++ codes "(:action drop :parameters (?obj ?room ?gripper)\n"
    ++ codes ":precondition (and (ball ?obj) (room ?room) (gripper ?gripper) (carry ?obj ?gripper) (at-robby ?room))\n"
    ++ codes ":effect (and (at ?obj ?room) (free ?gripper) (not (carry ?obj ?gripper)))))\n"

-- The problem's head: its name, the domain's, and the objects: two rooms, balls 1 to number, two grippers.
abbrev pub gripper_head : (number : ℕ) → List ℕ
gripper_head number = head (codes "gripper") (codes "rooma roomb") (codes " ball") (codes " left right") number

-- The initial state: every ball is in room a with the robot, and both grippers are free.
abbrev pub gripper_init : (number : ℕ) → List ℕ
gripper_init number =
    codes "(:init (room rooma) (room roomb)"
    ++ numbered (codes " (ball ball") (codes ")") number
    ++ codes " (gripper left) (gripper right) (at-robby rooma)"
    ++ numbered (codes " (at ball") (codes " rooma)") number
    ++ codes " (free left) (free right))\n"

-- The goal, with the end of the problem: every ball is in room b.
abbrev pub gripper_goal : (number : ℕ) → List ℕ
gripper_goal number =
    codes "(:goal (and" ++ numbered (codes " (at ball") (codes " roomb)") number ++ codes ")))\n"

-- The problem.
abbrev pub gripper_problem : (number : ℕ) → List ℕ
gripper_problem number = gripper_head number ++ gripper_init number ++ gripper_goal number
