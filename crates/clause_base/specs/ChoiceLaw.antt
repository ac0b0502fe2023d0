use Rattle.std.proofs.Common.{arith, ◌≡◌, ℕ, ◌+◌, ◌*◌, ◌/◌, [], ◌∷◌, Bool, Option, Some, None, All, IsSome, refl, suc}
use Rattle.std.specs.List.{slice_get}
use Rattle.std.proofs.lemmas.List.Elements.{All-nil, All-cons}
use Rattle.clause_base.specs.Choice.{Known, IsOpenChoice, plain_choice, plain_choice_from}

-- the choice over values of variables that are numbered from v
abbrev OpenFrom : ℕ → Known → Option ℕ → Type 0
OpenFrom v values None = All (λ value. IsSome value) values
OpenFrom v values (Some l) = (k : ℕ) × (l ≡ 2 * (v + k) + 1) × (slice_get values k ≡ Some None)

-- one more variable with a value in front
more : (v : ℕ) (b : Bool) (values : Known) (o : Option ℕ) → OpenFrom (v + 1) values o → OpenFrom v (Some b ∷ values) o
more v b values None h = All-cons (λ value. IsSome value) (Some b) values refl h
more v b values (Some l) h = (suc h.0, omega (arith, h.1), h.2)

from : (v : ℕ) (values : Known) → OpenFrom v values (plain_choice_from v values)
from v [] = All-nil (λ value. IsSome value)
from v (None ∷ values) = (0, omega arith, refl)
from v (Some b ∷ values) = more v b values _ (from (v + 1) values)

at_zero : (values : Known) (o : Option ℕ) → OpenFrom 0 values o → IsOpenChoice values o
at_zero values None h = h
at_zero values (Some l) h = let e : l / 2 ≡ h.0 = omega (arith, h.1) in rw e h.2

-- the plain choice is open
pub plain_choice-open : (values : Known) → IsOpenChoice values (plain_choice values)
plain_choice-open values = at_zero values _ (from 0 values)
