use Rattle.std.specs.Prelude.{ℕ, Bool, List, flat_map}

-- what was handed on
pub record Sent : Type 0 where
  pub bytes : List ℕ

-- the bytes of all calls, in their order
abbrev pub all_bytes : List (List ℕ × (Bool × List ℕ)) → List ℕ
all_bytes calls = flat_map (λ call. call.1.1) calls
