-- The contrary of a literal.
use Rattle.std.proofs.Common.{arith, ℕ, ◌≡◌, Bool, not}
use Rattle.std.proofs.lemmas.Bool.Decides.{nat_tests}
use Rattle.containers.specs.Codes.{opposite, holds}

pub opposite_twice : (l : ℕ) → opposite (opposite l) ≡ l
opposite_twice l = grind (arith, nat_tests)

pub opposite_holds : (values : ℕ → Bool) (l : ℕ) → holds values (opposite l) ≡ not (holds values l)
opposite_holds values l = grind (arith, nat_tests)
