use Rattle.std.specs.Prelude.{ℕ, ◌+◌, List, [], ◌∷◌, ◌++◌, Bool, ◌&&◌, ◌||◌, if◌then◌else◌}
use Rattle.std.specs.List.{list_any}
use Rattle.formula_defs.specs.Clause.{Literal, Is, Not}

-- A chain is over actions in an order, its members, and one fact literal. `takes` says which members may
-- take the literal away, and `reads` which read it. Each reader that has a taker before it has one chain variable,
-- which is true where a taker before it is in the step. `seen` says that a taker stands before the members that are
-- left, and `i` is the number of the next chain variable. (Rintanen, Heljanko and Niemelä 2006.)

-- how many variables a chain has
abbrev pub chain_length : {A : Type 0} → (A → Bool) → (A → Bool) → Bool → List A → ℕ
chain_length takes reads seen [] = 0
chain_length takes reads seen (k ∷ ks) = (if seen && reads k then 1 else 0) + chain_length takes reads (seen || takes k) ks

-- one clause where a reader is left
abbrev pub if_read : {A : Type 0} → (A → Bool) → List A → List Literal → List (List Literal)
if_read reads ks clause = if list_any reads ks then clause ∷ [] else []

-- a taker makes the variable of the first reader after it true
abbrev pub enter_clauses : {A : Type 0} → (act : A → ℕ) (var : ℕ → ℕ) → (A → Bool) → (A → Bool) → Bool → ℕ → List A → List (List Literal)
enter_clauses act var takes reads seen i [] = []
enter_clauses act var takes reads seen i (k ∷ ks) =
    (if takes k then if_read reads ks (Not (act k) ∷ Is (var (if seen && reads k then i + 1 else i)) ∷ []) else [])
    ++ enter_clauses act var takes reads (seen || takes k) (if seen && reads k then i + 1 else i) ks

-- a true variable forbids its reader, and makes the next variable true
abbrev pub pass_clauses : {A : Type 0} → (act : A → ℕ) (var : ℕ → ℕ) → (A → Bool) → (A → Bool) → Bool → ℕ → List A → List (List Literal)
pass_clauses act var takes reads seen i [] = []
pass_clauses act var takes reads seen i (k ∷ ks) =
    (if seen && reads k then (Not (var i) ∷ Not (act k) ∷ []) ∷ if_read reads ks (Not (var i) ∷ Is (var (i + 1)) ∷ []) else [])
    ++ pass_clauses act var takes reads (seen || takes k) (if seen && reads k then i + 1 else i) ks
