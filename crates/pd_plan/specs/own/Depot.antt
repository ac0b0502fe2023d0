-- A small task for tests: two places, an item, and actions that ask for nothing and change nothing.
use Rattle.std.specs.Prelude.{ℕ, List, [], ◌∷◌, codes}
use Rattle.pd_model.specs.declared.types.TypeDecl.{TypeDecl}
use Rattle.pd_model.specs.declared.objects.ObjectDecl.{ObjectDecl}
use Rattle.pd_model.specs.declared.schemas.Schema.{Schema}
use Rattle.pd_model.specs.declared.parts.Parts.{Parts}

-- a type right under `object`
abbrev pub type_named : List ℕ → TypeDecl
type_named name = record { name = name; parent = 0 }

-- an object of the type of this number
abbrev pub object_named : List ℕ → ℕ → ObjectDecl
object_named name kind = record { name = name; kind = kind }

-- an action with parameters of the types of these numbers
abbrev pub schema_named : List ℕ → List ℕ → Schema
schema_named name parameters = record { name = name; parameters = parameters; pre = []; effects = [] }

-- `move` takes two places, `hop` two objects of any type, `flip` none
abbrev pub depot : Parts
depot = record {
  types = type_named (codes "object") ∷ type_named (codes "place") ∷ type_named (codes "item") ∷ [];
  predicates = [];
  objects = object_named (codes "home") 1 ∷ object_named (codes "office") 1 ∷ object_named (codes "d") 2 ∷ [];
  schemas = schema_named (codes "move") (1 ∷ 1 ∷ []) ∷ schema_named (codes "hop") (0 ∷ 0 ∷ []) ∷ schema_named (codes "flip") [] ∷ [];
  init = [];
  goal = [];
}
