-- How many things a task has, so that each has a number of 32 bits.
use Rattle.std.specs.Prelude.{ℕ, ◌+◌, ◌^◌, Bool, ◌&&◌, nat_lt, length}
use Rattle.std.specs.List.{list_all}
use Rattle.pd_model.specs.declared.effects.Effect.{Effect}
use Rattle.pd_model.specs.declared.schemas.Schema.{Schema}
use Rattle.pd_model.specs.declared.parts.Parts.{Parts}

-- so many things have numbers of 32 bits
abbrev pub is_few : ℕ → Bool
is_few n = nat_lt n (2 ^ 32)

-- the variables of an effect: the parameters and those of its `forall`s
abbrev pub few_effect : ℕ → Effect → Bool
few_effect parameters e = is_few (parameters + length e.over)

-- the variables of an action
abbrev pub few_schema : Schema → Bool
few_schema s = is_few (length s.parameters) && list_all (few_effect (length s.parameters)) s.effects

-- all that has a number in a task
abbrev pub few_parts : Parts → Bool
few_parts p =
    is_few (length p.types) && is_few (length p.predicates) && is_few (length p.objects) && is_few (length p.schemas)
    && list_all few_schema p.schemas
