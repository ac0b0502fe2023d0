-- In which ways the literals of a clause can all be false after an action.
use Rattle.std.specs.Prelude.{ℕ, ◌==◌, List, [], ◌∷◌, ◌++◌, map, if◌then◌else◌}
use Rattle.std.specs.List.{filter, flat_map}
use Rattle.gt_core.specs.Literal.{opposite}
use Rattle.gt_core.specs.Task.{Action}
use Rattle.gt_core.specs.Interference.{action_surely_makes}
use Rattle.implied_literals.specs.Breaks.{is_add}

-- one way: literals that hold before the action, and clauses that are true there
pub record Case : Type 0 where
  pub literals : List ℕ
  pub clauses : List (List ℕ)

-- the conditions under which an action makes a literal true
abbrev pub conditions_of : Action → ℕ → List (List ℕ)
conditions_of x l = map (λ e. e.condition) (filter (λ e. e.literal == l) x.effects)

-- clauses which say that no effect makes a literal true: of each of its conditions some literal is false
abbrev pub none_makes : Action → ℕ → List (List ℕ)
none_makes x l = map (map opposite) (conditions_of x l)

-- what is known besides of a literal that an action made true: where it is a delete, no effect adds its fact
abbrev pub if_made : Action → ℕ → List (List ℕ)
if_made x l = if is_add l then [] else none_makes x (opposite l)

-- a literal holds afterwards because it held before and no effect made its opposite true, or because an effect made it true
abbrev pub ways_of : Action → ℕ → List Case
ways_of x l =
    if action_surely_makes x l
    then record { literals = []; clauses = if_made x l } ∷ []
    else record { literals = l ∷ []; clauses = none_makes x (opposite l) } ∷ map (λ c. record { literals = c; clauses = if_made x l }) (conditions_of x l)

-- both of two cases
abbrev pub both : Case → Case → Case
both p q = record { literals = p.literals ++ q.literals; clauses = p.clauses ++ q.clauses }

-- each choice of one way for the opposite of each literal of a clause
abbrev pub cases_of : Action → List ℕ → List Case
cases_of x [] = record { literals = []; clauses = [] } ∷ []
cases_of x (l ∷ c) = flat_map (λ p. map (both p) (cases_of x c)) (ways_of x (opposite l))
