-- Tasks within the limit on tuples: no `forall` of an action that has calls has more tuples than the limit says.
use Rattle.std.specs.Prelude.{◌≤◌, List, Option, Some, None, slice_get}
use Rattle.std.specs.List.{AllByRecursion}
use Rattle.pd_model.specs.declared.calls.Call.{Call}
use Rattle.pd_model.specs.declared.effects.Effect.{Effect}
use Rattle.pd_model.specs.declared.parts.Parts.{Parts}
use Rattle.pd_model.specs.declared.schemas.Schema.{Schema}
use Rattle.grounding_defs.specs.Tuples.{product_of}
use Rattle.grounding_defs.specs.Limits.{most_tuples}

-- the `forall` of an effect has at most as many tuples as the limit says
abbrev pub HasFewTuples : Parts → Effect → Type 0
HasFewTuples p e = product_of p e.over ≤ most_tuples

-- each effect of a schema has, where there is such a schema
abbrev pub HasFewOf : Parts → Option Schema → Type 0
HasFewOf p None = Unit {0}
HasFewOf p (Some schema) = AllByRecursion (HasFewTuples p) schema.effects

-- each effect of a call has
abbrev pub HasFew : Parts → Call → Type 0
HasFew p c = HasFewOf p (slice_get p.schemas c.schema)

-- each effect of the schema of each call has
abbrev pub HaveFew : Parts → List Call → Type 0
HaveFew p calls = AllByRecursion (HasFew p) calls
