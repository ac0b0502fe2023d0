-- Atoms and calls as text.
use Rattle.std.specs.Prelude.{ℕ, List, [], ◌++◌, map, codes, slice_index_or}
use Rattle.std.specs.List.{flat_map}
use Rattle.pd_model.specs.Names.{predicate_names, object_names, schema_names}
use Rattle.pd_model.specs.declared.atoms.Atom.{Atom}
use Rattle.pd_model.specs.declared.calls.Call.{Call}
use Rattle.pd_model.specs.declared.parts.Parts.{Parts}

-- the name of a predicate, of an object, and of an action, by its number
abbrev pub predicate_name : Parts → ℕ → List ℕ
predicate_name p n = slice_index_or (predicate_names p.predicates) n []

-- the name of the object with this number
abbrev pub object_name : Parts → ℕ → List ℕ
object_name p n = slice_index_or (object_names p.objects) n []

-- the name of the action with this number
abbrev pub schema_name : Parts → ℕ → List ℕ
schema_name p n = slice_index_or (schema_names p.schemas) n []

-- `(name object ..)` with single spaces
abbrev pub spelled : List ℕ → List (List ℕ) → List ℕ
spelled name objects = codes "(" ++ (name ++ (flat_map (λ o. codes " " ++ o) objects ++ codes ")"))

-- the text of an atom
abbrev pub atom_text : Parts → Atom → List ℕ
atom_text p a = spelled (predicate_name p a.predicate) (map (object_name p) a.objects)

-- the text of a call
abbrev pub call_text : Parts → Call → List ℕ
call_text p c = spelled (schema_name p c.schema) (map (object_name p) c.objects)
