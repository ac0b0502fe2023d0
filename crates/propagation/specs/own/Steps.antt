-- Of which step of a formula the clause of a slot is.
use Rattle.std.specs.Prelude.{◌≡◌, ℕ, ◌+◌, ◌*◌, ◌<◌, ◌≤◌, List, Some, length, slice_get, slice_index}
use Rattle.cdcl_defs.specs.State.{clause_at}
use Rattle.clause_base.specs.Repeats.{all_steps}
use Rattle.propagation.specs.declared.steps.Steps.{Steps}

-- the number of a clause is one of those of a step, where there are so many steps, each has so many clauses, and so many come before
pub record IsPlaced (before steps size step number : ℕ) : Type 0 where
  pub inside : step < steps
  pub first : before + step * size ≤ number
  pub last : number < before + step * size + size

-- each of the first slots has a clause of the step that is noted for it
abbrev pub ArePlaced : (before steps size : ℕ) → List ℕ → List ℕ → Type 0
ArePlaced before steps size of_slots slots = (s : ℕ) → s < length of_slots → IsPlaced before steps size (slice_index of_slots s) (slice_index slots s)

-- the clauses of the steps are those with these numbers, and the first slots are of clauses of these steps
pub record AreStepped (clauses : List (List ℕ)) (slots : List ℕ) (t : Steps) : Type 0 where
  pub within : t.before + t.part.horizon * t.size ≤ length clauses
  pub sized : (k : ℕ) → k < t.part.horizon → t.size ≡ length t.part.step
  pub same : (k : ℕ) → k < t.part.horizon * t.size → slice_get (all_steps t.part) k ≡ Some (clause_at clauses (t.before + k))
  pub long : length t.of_slots.items ≤ length slots
  pub placed : ArePlaced t.before t.part.horizon t.size t.of_slots.items slots
