use Rattle.std.specs.Prelude.{ℕ, ◌+◌, ◌*◌, ◌/◌, ◌%◌, ◌==◌, List, [], ◌∷◌, ◌++◌, Bool, false, ◌&&◌, ◌||◌, if◌then◌else◌, map}
use Rattle.std.specs.List.{list_any, filter, flat_map}
use Rattle.gt_core.specs.Literal.{opposite, range}
use Rattle.gt_core.specs.Task.{Task, EffectOf, Action, initial_state}
use Rattle.gt_core.specs.Interference.{takes, reads}
use Rattle.formula_defs.specs.Layout.{Layout, action_at, chain_at, fact_at}
use Rattle.formula_defs.specs.Clause.{Literal, Is, Not}
use Rattle.formula_defs.specs.Chain.{enter_clauses, pass_clauses}
use Rattle.formula_defs.specs.Variables.{Row, rows, has_condition, Chain, chains, layout_of, variable_at}

-- Below, `act`, `var`, `now` and `next` give the variable of an action, of an effect, and of a fact before and after
-- one step; `pairs` are the known pairs, of each of which one literal holds in every state.

-- a fact literal over the variables of the facts
abbrev pub literal_over : (ℕ → ℕ) → ℕ → Literal
literal_over fact l = if l % 2 == 0 then Is (fact (l / 2)) else Not (fact (l / 2))

-- an action in the step has each literal of its precondition; the first action of the list has number a
abbrev pub precondition_clauses : (act now : ℕ → ℕ) → ℕ → List Action → List (List Literal)
precondition_clauses act now a [] = []
precondition_clauses act now a (x ∷ xs) =
    map (λ l. Not (act a) ∷ literal_over now l ∷ []) x.precondition ++ precondition_clauses act now (a + 1) xs

-- the variables of the effects that pass a test
abbrev pub effects_with : (Row → ℕ) → (EffectOf → Bool) → List Row → List Literal
effects_with var test rows = map (λ r. Is (var r)) (filter (λ r. test r.effect) rows)

-- the variable of a conditional effect is true where its action is in the step and its condition holds
abbrev pub meaning_clauses : (act now : ℕ → ℕ) (var : Row → ℕ) → Row → List (List Literal)
meaning_clauses act now var r =
    if has_condition r.effect
    then (Not (var r) ∷ Is (act r.effect.action) ∷ [])
    ∷ map (λ c. Not (var r) ∷ literal_over now c ∷ []) r.effect.condition
    ++ (Is (var r) ∷ Not (act r.effect.action) ∷ map (λ c. literal_over now (opposite c)) r.effect.condition) ∷ []
    else []

-- what an effect makes true; a delete does so unless its action adds the fact
abbrev pub result_clause : (next : ℕ → ℕ) (var : Row → ℕ) → List Row → Row → List Literal
result_clause next var all r =
    Not (var r) ∷ literal_over next r.effect.literal
    ∷ (if r.effect.literal % 2 == 0 then [] else effects_with var (λ e. (e.action == r.effect.action) && (e.literal == opposite r.effect.literal)) all)

-- the clauses of all effects of a step: what each means, and what it results in
abbrev pub effect_clauses : (act now next : ℕ → ℕ) (var : Row → ℕ) → List Row → List Row → List (List Literal)
effect_clauses act now next var all rows =
    flat_map (λ r. meaning_clauses act now var r ++ result_clause next var all r ∷ []) rows

-- a fact that changes has an effect that changes it
abbrev pub frame_clauses : (now next : ℕ → ℕ) (var : Row → ℕ) → List Row → List ℕ → List (List Literal)
frame_clauses now next var all facts =
    flat_map (λ f. (Not (now f) ∷ Is (next f) ∷ effects_with var (λ e. e.literal == 2 * f + 1) all)
    ∷ (Is (now f) ∷ Not (next f) ∷ effects_with var (λ e. e.literal == 2 * f) all) ∷ []) facts

-- no member of a chain takes what a later member reads; `var` gives the chain variables
abbrev pub chain_clauses : (act var : ℕ → ℕ) → Task → List Chain → List (List Literal)
chain_clauses act var task cs =
    flat_map (λ c. enter_clauses act var (takes task c.literal) (reads task c.literal) false c.first c.members
    ++ pass_clauses act var (takes task c.literal) (reads task c.literal) false c.first c.members) cs

-- the clauses of step t
abbrev pub step_clauses : Layout → Task → List (List ℕ × ℕ) → ℕ → List (List Literal)
step_clauses z task places t =
    precondition_clauses (action_at z t) (fact_at z t) 0 task.actions
    ++ (effect_clauses (action_at z t) (fact_at z t) (fact_at z (t + 1)) (variable_at z t) (rows task) (rows task)
    ++ (frame_clauses (fact_at z t) (fact_at z (t + 1)) (variable_at z t) (rows task) (range task.facts)
    ++ chain_clauses (action_at z t) (chain_at z t) task (chains task places)))

-- each fact has its initial value at time 0
abbrev pub initial_clauses : Layout → Task → List (List Literal)
initial_clauses z task = map (λ f. (if initial_state task f then Is (fact_at z 0 f) else Not (fact_at z 0 f)) ∷ []) (range task.facts)

-- the goal holds at the last time; a hopeless goal is the empty clause besides
abbrev pub goal_clauses : Layout → Task → List (List Literal)
goal_clauses z task =
    (if task.hopeless then [] ∷ [] else []) ++ map (λ l. literal_over (fact_at z z.horizon) l ∷ []) task.goal

-- a literal is known by itself: a pair of it twice
abbrev pub is_single : List (ℕ × ℕ) → ℕ → Bool
is_single pairs l = list_any (λ c. (c.0 == l) && (c.1 == l)) pairs

-- the clause of a known pair, left out where one of its two literals is known by itself
abbrev pub pair_clause : (ℕ → ℕ) → List (ℕ × ℕ) → ℕ × ℕ → List (List Literal)
pair_clause now pairs c =
    if c.0 == c.1 then (literal_over now c.0 ∷ []) ∷ []
    else if is_single pairs c.0 || is_single pairs c.1 then []
    else (literal_over now c.0 ∷ literal_over now c.1 ∷ []) ∷ []

-- the clauses of the known pairs at time t
abbrev pub pair_clauses : Layout → List (ℕ × ℕ) → ℕ → List (List Literal)
pair_clauses z pairs t = flat_map (pair_clause (fact_at z t) pairs) pairs

-- the clauses of the formula of horizon n, in order, before each is sorted
abbrev pub clauses_of_horizon : Task → List (ℕ × ℕ) → List (List ℕ × ℕ) → ℕ → List (List Literal)
clauses_of_horizon task pairs places n =
    let z = layout_of task places n in
    initial_clauses z task ++ (goal_clauses z task
    ++ (flat_map (step_clauses z task places) (range n)
    ++ flat_map (pair_clauses z pairs) (range (n + 1))))
