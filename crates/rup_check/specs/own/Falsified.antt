use Rattle.std.specs.Prelude.{ℕ, List}

-- the literals that are taken as false, rising, over so many variables
pub record FalsifiedView : Type 0 where
  pub variables : ℕ
  pub falsified : List ℕ
