-- Names among words.
use Rattle.std.specs.Prelude.{◌≡◌, ◌⊎◌, ℕ, List, [], ◌∷◌}

-- these names are among the words, in their order, at most one for each word
abbrev pub AreAmong : List (List ℕ) → List (List ℕ) → Type 0
AreAmong words [] = Unit {0}
AreAmong [] (name ∷ names) = ⊥
AreAmong (word ∷ words) (name ∷ names) = ((word ≡ name) × AreAmong words names) ⊎ AreAmong words (name ∷ names)
