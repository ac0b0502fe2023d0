-- The names of the files that were opened.
use Rattle.std.specs.Prelude.{ℕ, Bool, List, map}

-- the names, in their order
pub record Opened : Type 0 where
  pub names : List (List ℕ)

-- the names of all calls, in their order
abbrev pub all_names : List (List ℕ × (Bool × List ℕ)) → List (List ℕ)
all_names calls = map (λ call. call.0) calls
