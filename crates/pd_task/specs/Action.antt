-- Actions (`<action-def>` of the grammar of PDDL 2.1: Fox and Long 2003, appendix A).
use Rattle.std.specs.Prelude.{ℕ, List, [], ◌∷◌, ◌++◌, Option, Some, None, is_none, Result, Ok, Err, if◌then◌else◌, not, codes}
use Rattle.std.specs.Str.{bytes_eq}
use Rattle.pd_sexp.specs.Tree.{Tree, word, list, Trees, no_trees, and_tree}
use Rattle.pd_model.specs.declared.schemas.Schema.{Schema}
use Rattle.pd_model.specs.Names.{schema_names}
use Rattle.pd_words.specs.declared.fault.Fault.{Fault}
use Rattle.pd_words.specs.declared.fault.Fault.TheVariants.{Shape, Duplicate}
use Rattle.pd_words.specs.Items.{place_of, name_at}
use Rattle.pd_words.specs.Names.{is_among}
use Rattle.pd_words.specs.Typed.{variable_list}
use Rattle.pd_words.specs.First.{◌>>=◌, wants}
use Rattle.pd_task.specs.declared.action.Key.{Key}
use Rattle.pd_task.specs.declared.action.Key.TheVariants as key
use Rattle.pd_task.specs.Atoms.{Names, condition}
use Rattle.pd_task.specs.Effects.{effect}

-- the key that a word is
abbrev pub key_of : Tree → Result Key Fault
key_of (list at items) = Err (Shape at)
key_of (word at text) =
    if bytes_eq text (codes ":parameters") then Ok key.Parameters
    else if bytes_eq text (codes ":precondition") then Ok key.Precondition
    else if bytes_eq text (codes ":effect") then Ok key.Effect
    else Err (Shape at)

-- the values of the keys that stood so far
pub record Keys : Type 0 where
  pub parameters : Option Tree
  pub precondition : Option Tree
  pub effect : Option Tree

-- no key stood so far
abbrev pub no_keys : Keys
no_keys = record { parameters = None; precondition = None; effect = None }

-- the value of a key, where it stood
abbrev pub value_at : Key → Keys → Option Tree
value_at key.Parameters keys = keys.parameters
value_at key.Precondition keys = keys.precondition
value_at key.Effect keys = keys.effect

-- the same keys, and this one with this value
abbrev pub with_value : Key → Tree → Keys → Keys
with_value key.Parameters value keys = record keys { parameters = Some value }
with_value key.Precondition value keys = record keys { precondition = Some value }
with_value key.Effect value keys = record keys { effect = Some value }

-- Keys and values, from the left, after these: another key, then a key that stood before, then a missing
-- value, which is told at the action's list.
abbrev mutual
  pub keys_from : ℕ → Keys → Trees → Result Keys Fault
  keys_from list_at before no_trees = Ok before
  keys_from list_at before (and_tree first rest) = do
    k ← key_of first
    _ ← wants (is_none (value_at k before)) (Duplicate (place_of first))
    value_next list_at before k rest

  -- the keys after these, where the value of a key is due
  pub value_next : ℕ → Keys → Key → Trees → Result Keys Fault
  value_next list_at before k no_trees = Err (Shape list_at)
  value_next list_at before k (and_tree value rest) = keys_from list_at (with_value k value before) rest

-- a missing value is an empty one
abbrev pub value_of : Option Tree → Tree
value_of None = list 0 no_trees
value_of (Some t) = t

-- What the parts of an action of this name say: its parameters, its precondition, then its effect.
abbrev pub schema : List (List ℕ) → Names → List ℕ → Keys → Result Schema Fault
schema types names name keys = do
  parameters ← variable_list types (value_of keys.parameters)
  let inside : Names = record names { variables = parameters.names ∷ [] } in do
    pre ← condition inside [] (value_of keys.precondition)
    effects ← effect types (record { names = inside; over = []; cond = [] }) [] (value_of keys.effect)
    Ok (record { name = name; parameters = parameters.kinds; pre = pre; effects = effects })

-- these actions, and the one that the list at this place is: its name, its keys, then its parts
abbrev pub and_action : List (List ℕ) → Names → List Schema → ℕ → Trees → Result (List Schema) Fault
and_action types names before at no_trees = Err (Shape at)
and_action types names before at (and_tree title rest) = do
  name ← name_at title
  _ ← wants (not (is_among name (schema_names before))) (Duplicate (place_of title))
  keys ← keys_from at no_keys rest
  new ← schema types names name keys
  Ok (before ++ new ∷ [])
