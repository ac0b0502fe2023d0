-- The parts of the formula of clauses in codes, and from which numbers they are made.
use Rattle.std.specs.Prelude.{ℕ, ◌+◌, ◌-◌, ◌*◌, ◌<◌, ◌≤◌, List, [], ◌∷◌, ◌++◌, map, length, drop, if◌then◌else◌}
use Rattle.std.specs.List.{filter_map, AllByRecursion}
use Rattle.clause_base.specs.Clause.{clause_of}
use Rattle.clause_base.specs.Formula.{Cnf}
use Rattle.gt_core.specs.Literal.{opposite, range_from}
use Rattle.gt_core.specs.Task.{Task}
use Rattle.formula_defs.specs.Coded.{literals_in}

-- clauses of these literals, each sorted and with equal literals once; one with an opposite pair is left out
abbrev pub made : List (List ℕ) → List (List ℕ)
made clauses = filter_map clause_of clauses

-- a formula with these clauses at its end
abbrev pub with_made : Cnf → List (List ℕ) → Cnf
with_made formula clauses = record formula { clauses = formula.clauses ++ made clauses }

-- literals of facts, whose codes begin at a base
abbrev pub moved : ℕ → List ℕ → List ℕ
moved base lits = map (λ l. base + l) lits

-- the clauses of a cube with this variable
abbrev pub cube : ℕ → ℕ → List ℕ → List (List ℕ)
cube base k lits = map (λ l. (2 * k + 1) ∷ (base + l) ∷ []) lits

-- the clauses of the cubes that say of each of some clauses that it is false, from this variable on
abbrev pub cubes : ℕ → ℕ → List (List ℕ) → List (List ℕ)
cubes base k [] = []
cubes base k (c ∷ cs) = cube base k (map opposite c) ++ cubes base (k + 1) cs

-- so many variables, from this one on
abbrev pub some : ℕ → ℕ → List ℕ
some first count = map (λ v. 2 * v) (range_from first count)

-- where the literals of facts, moved from a base, have variables below a number
abbrev pub Fits : ℕ → ℕ → List ℕ → Type 0
Fits base variables lits = AllByRecursion (λ l. base + l < 2 * variables) lits

-- as many clauses as a formula may have, with so many more
abbrev pub HasRoom : Cnf → ℕ → Type 0
HasRoom formula n = length formula.clauses + n ≤ 1073741824

-- how many clauses the formula of horizon 1 has before those of its step
abbrev pub ends : Task → ℕ
ends task = task.facts + (if task.hopeless then 1 else 0) + length task.goal

-- The clauses before the step, the cubes after it, and that some cube holds. The first cube has this variable; the facts before the step
-- and those after it have the variables before it.
abbrev pub own_parts : Task → ℕ → List (List ℕ) → List (List ℕ)
own_parts task first clauses =
    made (map (moved (2 * (first - 2 * task.facts))) clauses)
    ++ made (cube (2 * (first - task.facts)) first task.goal)
    ++ made (cubes (2 * (first - task.facts)) (first + 1) clauses)
    ++ made (some first (length clauses + 1) ∷ [])

-- the formula of clauses, from that of horizon 1
abbrev pub joined : Task → Cnf → List (List ℕ) → Cnf
joined task one clauses = record {
  name = 1;
  variables = one.variables + (length clauses + 1);
  clauses = own_parts task one.variables clauses ++ drop (ends task) one.clauses;
}

-- Where the first cube has a variable, the numbers of its formula are in range.
pub record HasNumbers (task : Task) (first : ℕ) (clauses : List (List ℕ)) : Type 0 where
  pub variables : first + (length clauses + 1) ≤ 2147483647
  pub facts : 2 * task.facts ≤ first
  pub goal : AllByRecursion (λ l. l < 2 * task.facts) task.goal
  pub over : AllByRecursion (AllByRecursion (λ l. l < 2 * task.facts)) clauses
  pub few : length clauses + length task.goal + literals_in clauses + 1 ≤ 1073741824
