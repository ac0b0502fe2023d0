-- The count of tuples: how much there is to look at, before any tuple is listed.
use Rattle.std.specs.Prelude.{ℕ, ◌+◌, ◌-◌, ◌*◌, ◌^◌, List, [], ◌∷◌, length, sum_by, if◌then◌else◌, nat_le}
use Rattle.pd_model.specs.Fits.{fitting}
use Rattle.pd_model.specs.declared.parts.Parts.{Parts}
use Rattle.pd_model.specs.declared.schemas.Schema.{Schema}

-- the product, over variables of these types, of the number of objects that fit
abbrev pub product_of : Parts → List ℕ → ℕ
product_of p [] = 1
product_of p (kind ∷ kinds) = length (fitting p kind) * product_of p kinds

-- the tuples of an effect: those of its `forall`, where it has one
abbrev pub effect_tuples : Parts → List ℕ → ℕ
effect_tuples p [] = 0
effect_tuples p (kind ∷ kinds) = product_of p (kind ∷ kinds)

-- the tuples of a schema: those of its parameters, and with each of them those of each effect under a `forall`
abbrev pub schema_tuples : Parts → Schema → ℕ
schema_tuples p s = product_of p s.parameters * (1 + sum_by (λ e. effect_tuples p e.over) s.effects)

-- the count over all schemas
abbrev pub tuples_in : Parts → ℕ
tuples_in p = sum_by (schema_tuples p) p.schemas

-- a count that stays at the greatest number of 64 bits
abbrev pub saturated : ℕ → ℕ
saturated n = if nat_le n (2 ^ 64 - 1) then n else 2 ^ 64 - 1
