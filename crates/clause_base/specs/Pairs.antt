-- The pairs that clauses of two literals give their literals.
use Rattle.std.specs.Prelude.{ℕ, ◌+◌, ◌==◌, List, [], ◌∷◌, ◌++◌, slice_index_or, if◌then◌else◌}
use Rattle.clause_base.specs.declared.pair.Pair.{Pair}

-- a pair past the end of a list
abbrev pub no_pair : Pair
no_pair = record { other = 0; number = 0 }

-- the pairs of a literal, and one of them by its place
abbrev pub pairs_of : List (List Pair) → ℕ → List Pair
pairs_of pairs code = slice_index_or pairs code []

-- the pair at a place of a list
abbrev pub pair_in : List Pair → ℕ → Pair
pair_in list place = slice_index_or list place no_pair

-- the pair that a clause with a number gives a literal: the other literal, where it has two of which this is one
abbrev pub pair_of : ℕ → ℕ → List ℕ → List Pair
pair_of number x [] = []
pair_of number x (a ∷ []) = []
pair_of number x (a ∷ b ∷ []) = if a == x then (record { other = b; number = number }) ∷ [] else if b == x then (record { other = a; number = number }) ∷ [] else []
pair_of number x (a ∷ b ∷ c ∷ clause) = []

-- the pairs that clauses give a literal, in the order of their numbers, of which the first clause's is given
abbrev pub pairs_from : ℕ → ℕ → List (List ℕ) → List Pair
pairs_from number x [] = []
pairs_from number x (clause ∷ clauses) = pair_of number x clause ++ pairs_from (number + 1) x clauses
