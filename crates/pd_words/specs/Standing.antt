-- The variables in scope, list by list, the outermost first, and the types of those of the `forall`s.
use Rattle.std.specs.Prelude.{ℕ, List}

-- the lists of variables in scope, and the types of the variables of the `forall`s
pub record Standing : Type 0 where
  pub levels : List (List (List ℕ))
  pub over : List ℕ
