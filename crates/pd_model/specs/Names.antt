-- The names of what a task declares, by number.
use Rattle.std.specs.Prelude.{ℕ, Bool, true, false, ◌&&◌, not, List, [], ◌∷◌, map, if◌then◌else◌}
use Rattle.std.specs.Str.{bytes_eq}
use Rattle.std.specs.List.{list_all}
use Rattle.pd_sexp.specs.Word.{is_word}
use Rattle.pd_model.specs.declared.types.TypeDecl.{TypeDecl}
use Rattle.pd_model.specs.declared.predicates.Predicate.{Predicate}
use Rattle.pd_model.specs.declared.objects.ObjectDecl.{ObjectDecl}
use Rattle.pd_model.specs.declared.schemas.Schema.{Schema}

-- the names of the types
abbrev pub type_names : List TypeDecl → List (List ℕ)
type_names types = map (λ t. t.name) types

-- the names of the predicates
abbrev pub predicate_names : List Predicate → List (List ℕ)
predicate_names predicates = map (λ p. p.name) predicates

-- how many terms each predicate takes
abbrev pub arities_of : List Predicate → List ℕ
arities_of predicates = map (λ p. p.arity) predicates

-- the names of the objects
abbrev pub object_names : List ObjectDecl → List (List ℕ)
object_names objects = map (λ o. o.name) objects

-- the names of the actions
abbrev pub schema_names : List Schema → List (List ℕ)
schema_names schemas = map (λ s. s.name) schemas

-- whether the name stands in the list
abbrev pub is_among : List ℕ → List (List ℕ) → Bool
is_among name [] = false
is_among name (n ∷ ns) = if bytes_eq name n then true else is_among name ns

-- whether no name stands twice
abbrev pub are_distinct : List (List ℕ) → Bool
are_distinct [] = true
are_distinct (n ∷ ns) = not (is_among n ns) && are_distinct ns

-- whether each name is a word of small letters, and no name stands twice
abbrev pub are_names : List (List ℕ) → Bool
are_names names = list_all is_word names && are_distinct names
