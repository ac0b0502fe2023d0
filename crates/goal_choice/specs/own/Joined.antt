-- What has to hold before effects, where the precondition of an action is kept once.
use Rattle.std.specs.Prelude.{ℕ, List, [], ◌∷◌, ◌++◌, slice_index_or}

-- for each conditional effect, by the number of its action and its condition, what has to hold before it
abbrev pub joined : List (List ℕ) → List ℕ → List (List ℕ) → List (List ℕ)
joined preconditions [] conditions = []
joined preconditions (a ∷ actions) [] = []
joined preconditions (a ∷ actions) (c ∷ conditions) = (slice_index_or preconditions a [] ++ c) ∷ joined preconditions actions conditions

-- for each action its precondition, and for each conditional effect what has to hold before it
abbrev pub all_needs : List (List ℕ) → List ℕ → List (List ℕ) → List (List ℕ)
all_needs preconditions actions conditions = preconditions ++ joined preconditions actions conditions
