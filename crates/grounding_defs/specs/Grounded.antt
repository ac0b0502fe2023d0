-- What grounding gives.
use Rattle.std.specs.Prelude.{◌≡◌, ◌==◌, List, Bool, ◌&&◌, IsTrue, ◌↔◌}
use Rattle.std.specs.Str.{bytes_eq as same_numbers}
use Rattle.std.specs.List.{list_any}
use Rattle.gt_core.specs.Task.{Task}
use Rattle.pd_model.specs.State.{is_in}
use Rattle.pd_model.specs.declared.atoms.Atom.{Atom}
use Rattle.pd_model.specs.declared.calls.Call.{Call}
use Rattle.pd_model.specs.declared.parts.Parts.{Parts}
use Rattle.grounding_defs.specs.Reach.{IsFact, IsAction}
use Rattle.grounding_defs.specs.Sorted.{atom_less, call_less, IsSorted}
use Rattle.grounding_defs.specs.Simplify.{task_of}

-- the same schema and the same objects, by number
abbrev pub same_call : Call → Call → Bool
same_call c d = (c.schema == d.schema) && same_numbers c.objects d.objects

-- whether the call is in a list
abbrev pub is_listed : Call → List Call → Bool
is_listed c calls = list_any (same_call c) calls

-- the task over numbered facts and actions; each fact's number is its place in `facts`, each action's in `calls`
pub record Grounded : Type 0 where
  pub facts : List Atom
  pub calls : List Call
  pub task : Task

-- the facts and the actions, each in order, and the task that they make
pub record IsGrounded (p : Parts) (g : Grounded) : Type 0 where
  pub fact_is : (a : Atom) → IsTrue (is_in a g.facts) ↔ IsFact p a
  pub call_is : (c : Call) → IsTrue (is_listed c g.calls) ↔ IsAction p c
  pub facts_sorted : IsSorted atom_less g.facts
  pub calls_sorted : IsSorted call_less g.calls
  pub task : g.task ≡ task_of p g.facts g.calls
