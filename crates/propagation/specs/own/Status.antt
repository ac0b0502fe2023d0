-- How a clause stands.
use Rattle.std.specs.Prelude.{◌≡◌, ℕ, List, [], ◌∷◌, Bool, true, false}
use Rattle.propagation.specs.declared.status.Status.{Status}
use Rattle.propagation.specs.declared.status.Status.TheVariants.{Open, Falsified, Unit}

-- whether a clause is pending, and what then are its literals that are not false
abbrev pub IsStatus : Bool → List ℕ → Status → Type 0
IsStatus pending free Open = pending ≡ false
IsStatus pending free Falsified = (pending ≡ true) × (free ≡ [])
IsStatus pending free (Unit lit) = (pending ≡ true) × (free ≡ lit ∷ [])
