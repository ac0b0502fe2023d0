-- Constants, objects, predicates and the initial state (`<constants-def>`, `<object declaration>`,
-- `<predicates-def>` and `<init>` of the grammar of PDDL 2.1: Fox and Long 2003, appendix A).
use Rattle.std.specs.Prelude.{ℕ, ◌==◌, Bool, true, false, List, [], ◌∷◌, ◌++◌, Option, Some, None, Result, Ok, Err, not, slice_index}
use Rattle.pd_sexp.specs.Tree.{Tree, word, list, Trees, no_trees, and_tree}
use Rattle.pd_model.specs.Names.{object_names, predicate_names}
use Rattle.pd_model.specs.Types.{kinds_of}
use Rattle.pd_model.specs.declared.objects.ObjectDecl.{ObjectDecl}
use Rattle.pd_model.specs.declared.predicates.Predicate.{Predicate}
use Rattle.pd_model.specs.declared.atoms.Atom.{Atom}
use Rattle.pd_words.specs.declared.fault.Fault.{Fault}
use Rattle.pd_words.specs.declared.fault.Fault.TheVariants.{Shape, Unknown, Arity, Duplicate, Unsupported}
use Rattle.pd_words.specs.declared.named.Named.{Named}
use Rattle.pd_words.specs.declared.keyword.Keyword.{Keyword}
use Rattle.pd_words.specs.declared.keyword.Keyword.TheVariants as heads
use Rattle.pd_words.specs.Words.{is_name, keyword, head_of}
use Rattle.pd_words.specs.Names.{number_of, is_among}
use Rattle.pd_words.specs.Typed.{type_of, typed_from, object, arity}
use Rattle.pd_words.specs.First.{◌>>=◌, found, wants, every}
use Rattle.pd_words.specs.Items.{place_of, name_at}
use Rattle.pd_task.specs.Atoms.{Names, count, one_of, predicate}

-- ---- objects

-- an object has a name; whether it is declared already is asked with its type
abbrev pub admit_object : List ObjectDecl → Named → Result (List ObjectDecl) Fault
admit_object objects w = wants (is_name w.name) (Shape w.at) >>= λ _. Ok objects

-- a name that stands again with the same type is the same object
abbrev pub declare : List ObjectDecl → ℕ → Named → Option ℕ → Result (List ObjectDecl) Fault
declare objects kind w None = Ok (objects ++ record { name = w.name; kind = kind } ∷ [])
declare objects kind w (Some o) = wants (slice_index (kinds_of objects) o == kind) (Duplicate w.at) >>= λ _. Ok objects

-- these words get this type, from the left
abbrev pub give_objects : List ObjectDecl → ℕ → List Named → Result (List ObjectDecl) Fault
give_objects objects kind [] = Ok objects
give_objects objects kind (w ∷ ws) =
    declare objects kind w (number_of w.name (object_names objects)) >>= λ next. give_objects next kind ws

-- after these objects and these words, which wait for their type
abbrev pub objects_from : List (List ℕ) → List ObjectDecl → List Named → Trees → Result (List ObjectDecl) Fault
objects_from types objects waiting items = typed_from admit_object (type_of types) give_objects object objects waiting items

-- the objects of a typed list, after these
abbrev pub and_objects : List (List ℕ) → List ObjectDecl → Trees → Result (List ObjectDecl) Fault
and_objects types objects items = objects_from types objects [] items

-- ---- predicates

-- whether the word is no reserved head
abbrev pub is_free : Keyword → Bool
is_free heads.Free = true
is_free _ = false

-- a predicate is declared once, and its name is no reserved head
abbrev pub and_predicate : List (List ℕ) → List Predicate → Tree → Result (List Predicate) Fault
and_predicate types predicates (word at text) = Err (Shape at)
and_predicate types predicates (list at no_trees) = Err (Shape at)
and_predicate types predicates (list at (and_tree head rest)) = do
  name ← name_at head
  _ ← wants (is_free (keyword name)) (Shape (place_of head))
  _ ← wants (not (is_among name (predicate_names predicates))) (Duplicate (place_of head))
  n ← arity types rest
  Ok (predicates ++ record { name = name; arity = n } ∷ [])

-- ---- the initial state

-- the number of the object that a word names
abbrev pub object_at : Names → Tree → Result ℕ Fault
object_at names (list at items) = Err (Shape at)
object_at names (word at text) = found (Unknown at) (number_of text names.objects)

-- an atom without variables, the list at this place
abbrev pub ground_atom : Names → ℕ → Trees → Result Atom Fault
ground_atom names at no_trees = Err (Shape at)
ground_atom names at (and_tree head rest) = do
  p ← predicate names.predicates head
  _ ← wants (count rest == slice_index names.arities p) (Arity at)
  objects ← every (object_at names) rest
  Ok (record { predicate = p; objects = objects })

-- what stands under the `not` at this place: an atom, which has no effect
abbrev pub init_denied : Names → ℕ → Tree → Result (Unit {0}) Fault
init_denied names at (word place text) = Err (Shape place)
init_denied names at (list place no_trees) = Err (Shape at)
init_denied names at (list place (and_tree head rest)) = elim (head_of head) [
  | heads.Free ↦ ground_atom names place (and_tree head rest) >>= λ _. Ok tt
  | heads.Equals ↦ Err (Unsupported place)
  | _ ↦ Err (Unsupported at)
]

-- these initial atoms, and the one of a further item
abbrev pub and_init : Names → List Atom → Tree → Result (List Atom) Fault
and_init names atoms (word at text) = Err (Shape at)
and_init names atoms (list at no_trees) = Err (Shape at)
and_init names atoms (list at (and_tree head rest)) = elim (head_of head) [
  | heads.Equals ↦ Err (Unsupported at)
  | heads.Not ↦ found (Shape at) (one_of rest) >>= λ t. init_denied names at t >>= λ _. Ok atoms
  | _ ↦ ground_atom names at (and_tree head rest) >>= λ a. Ok (atoms ++ a ∷ [])
]
