-- Types lie under one another by their parents; type 0 is `object`, its own parent.
use Rattle.std.specs.Prelude.{ℕ, zero, suc, Bool, ◌==◌, ◌||◌, List, length, map, slice_index}
use Rattle.pd_model.specs.declared.types.TypeDecl.{TypeDecl}
use Rattle.pd_model.specs.declared.objects.ObjectDecl.{ObjectDecl}

-- the parent of each type
abbrev pub parents_of : List TypeDecl → List ℕ
parents_of types = map (λ t. t.parent) types

-- the type of each object
abbrev pub kinds_of : List ObjectDecl → List ℕ
kinds_of objects = map (λ o. o.kind) objects

-- whether at most so many steps from a type to its parent lead to another type
abbrev pub leads_to : List ℕ → ℕ → ℕ → ℕ → Bool
leads_to parents zero kind above = kind == above
leads_to parents (suc n) kind above = (kind == above) || leads_to parents n (slice_index parents kind) above

-- whether a type lies at or under another: parents lead from the one to the other
abbrev pub is_under : List ℕ → ℕ → ℕ → Bool
is_under parents kind above = leads_to parents (length parents) kind above
