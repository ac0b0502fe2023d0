-- What the search finds of a task.
use Rattle.std.specs.Prelude.{◌≡◌, List}
use Rattle.pd_model.specs.declared.atoms.Atom.{Atom}
use Rattle.pd_model.specs.declared.calls.Call.{Call}
use Rattle.pd_model.specs.declared.parts.Parts.{Parts}
use Rattle.grounding_defs.specs.Found.{IsLeastPair, facts_of}
use Rattle.grounding_defs.specs.Sorted.{atom_less, call_less, IsSorted}

-- the facts of a task and its kept calls, each in order
pub record AreFound (p : Parts) (facts : List Atom) (kept : List Call) : Type 0 where
  pub reached : List Atom
  pub least : IsLeastPair p reached kept
  pub atoms_sorted : IsSorted atom_less reached
  pub calls_sorted : IsSorted call_less kept
  pub facts_are : facts ≡ facts_of p reached kept
