-- Small tasks, and short words for their parts.
use Rattle.std.proofs.Common.{ℕ, List, [], ◌∷◌}
use Rattle.pd_model.specs.declared.atoms.Atom.{Atom}
use Rattle.pd_model.specs.declared.conds.Cond.{Cond}
use Rattle.pd_model.specs.declared.schemas.Schema.{Schema}
use Rattle.pd_model.specs.declared.parts.Parts.{Parts}
pub use Rattle.pd_model.proofs.published.Tasks.{has, call}
use Rattle.pd_model.proofs.published.Tasks.{lacks, add, delete, schema, arity, type_under}

abbrev pub atom : ℕ → List ℕ → Atom
atom predicate objects = record { predicate = predicate; objects = objects }

-- two predicates without terms
abbrev pub plain : List Schema → List Atom → List Cond → Parts
plain schemas init goal = record {
  types = type_under 0 ∷ [];
  predicates = arity 0 ∷ arity 0 ∷ [];
  objects = [];
  schemas = schemas;
  init = init;
  goal = goal;
}

-- adds 1 where 0 is not in the state
abbrev pub makes_1 : Schema
makes_1 = schema [] (lacks 0 [] ∷ []) (add [] [] 1 [] ∷ [])

-- deletes 0
abbrev pub takes_0 : Schema
takes_0 = schema [] [] (delete [] [] 0 [] ∷ [])

-- makes 0 true where it is not
abbrev pub flips_0 : Schema
flips_0 = schema [] (lacks 0 [] ∷ []) (add [] [] 0 [] ∷ [])

-- adds and deletes 0
abbrev pub both_0 : Schema
both_0 = schema [] [] (add [] [] 0 [] ∷ delete [] [] 0 [] ∷ [])

-- adds 0 by two effects
abbrev pub sets_twice_0 : Schema
sets_twice_0 = schema [] [] (add [] [] 0 [] ∷ add [] [] 0 [] ∷ [])

-- adds 0 where 1 is in the state, and deletes it
abbrev pub may_set_0 : Schema
may_set_0 = schema [] [] (add [] (has 1 [] ∷ []) 0 [] ∷ delete [] [] 0 [] ∷ [])

-- the atoms that the small tasks reach
abbrev pub p : Atom
p = atom 0 []

abbrev pub q : Atom
q = atom 1 []

abbrev pub reached : List Atom
reached = p ∷ q ∷ []

-- an action that needs p to be false, and adds q; p is true at first
abbrev pub with_constant : Parts
with_constant = plain (makes_1 ∷ []) (p ∷ []) []

-- and another action, which deletes p
abbrev pub with_delete : Parts
with_delete = plain (makes_1 ∷ takes_0 ∷ []) (p ∷ []) []
