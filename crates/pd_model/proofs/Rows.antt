-- Small tasks, computed from the definitions alone.
use Rattle.std.proofs.Common.{◌≡◌, [], ◌∷◌, refl}
use Rattle.pd_model.specs.declared.atoms.Term.TheVariants.{Object, Variable}
use Rattle.pd_model.specs.declared.calls.Verdict.TheVariants.{Reaches}
use Rattle.pd_model.specs.declared.parts.Parts.{Parts}
use Rattle.pd_model.specs.Plan.{verdict}
use Rattle.pd_model.proofs.published.Tasks.{has, lacks, add, delete, schema, call, arity, type_under, object_of_type}

-- one action that adds and deletes the same atom
abbrev both : Parts
both = record {
  types = type_under 0 ∷ [];
  predicates = arity 0 ∷ [];
  objects = [];
  schemas = schema [] [] (add [] [] 0 [] ∷ delete [] [] 0 [] ∷ []) ∷ [];
  init = [];
  goal = has 0 [] ∷ [];
}

add_wins : verdict both (call 0 [] ∷ []) ≡ Reaches
add_wins = refl

-- a case with two items is moved from place 0 to place 1; what is in it (predicate 2) moves along (predicate 1)
abbrev case : Parts
case = record {
  types = type_under 0 ∷ type_under 0 ∷ type_under 0 ∷ [];
  predicates = arity 1 ∷ arity 2 ∷ arity 1 ∷ [];
  objects = object_of_type 2 ∷ object_of_type 2 ∷ object_of_type 1 ∷ object_of_type 1 ∷ [];
  schemas = schema (2 ∷ 2 ∷ []) (has 0 (Variable 0 ∷ []) ∷ [])
      (add [] [] 0 (Variable 1 ∷ []) ∷ delete [] [] 0 (Variable 0 ∷ [])
      ∷ add (1 ∷ []) (has 2 (Variable 2 ∷ []) ∷ []) 1 (Variable 2 ∷ Variable 1 ∷ []) ∷ delete (1 ∷ []) (has 2 (Variable 2 ∷ []) ∷ []) 1 (Variable 2 ∷ Variable 0 ∷ []) ∷ []) ∷ [];
  init = record { predicate = 0; objects = 0 ∷ [] } ∷ record { predicate = 2; objects = 3 ∷ [] } ∷ [];
  goal = has 0 (Object 1 ∷ []) ∷ has 1 (Object 3 ∷ Object 1 ∷ []) ∷ lacks 1 (Object 2 ∷ Object 1 ∷ []) ∷ [];
}
