-- Codes of a clause, one before the other. Only private clauses speak of it.
use Rattle.std.specs.Prelude.{◌≡◌, ◌<◌, ⊤, ℕ, List, [], ◌∷◌}
use Rattle.clause_base.specs.Literal.{opposite}

-- the code may stand right before these: it is below the next one, which is not that of its negation
abbrev pub GoesBefore : ℕ → List ℕ → Type 0
GoesBefore code [] = ⊤
GoesBefore code (next ∷ codes) = (code < next) × (next ≡ opposite code → ⊥)
