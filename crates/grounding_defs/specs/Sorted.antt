-- Lists in order, and the orders of atoms, calls and effects.
use Rattle.std.specs.Prelude.{◌==◌, List, [], ◌∷◌, Bool, ◌&&◌, ◌||◌, nat_lt, IsTrue, if◌then◌else◌}
use Rattle.gt_core.specs.Lawful.{list_less}
use Rattle.gt_core.specs.Published.{Pairwise}
use Rattle.pd_model.specs.declared.atoms.Atom.{Atom}
use Rattle.pd_model.specs.declared.calls.Call.{Call}

-- atoms by predicate, then by the objects from the left
abbrev pub atom_less : Atom → Atom → Bool
atom_less a b = nat_lt a.predicate b.predicate || ((a.predicate == b.predicate) && list_less a.objects b.objects)

-- calls by schema, then by the objects from the left
abbrev pub call_less : Call → Call → Bool
call_less c d = nat_lt c.schema d.schema || ((c.schema == d.schema) && list_less c.objects d.objects)

-- each element is before every later one, so none stands twice
abbrev pub IsSorted : {X : Type 0} → (X → X → Bool) → List X → Type 0
IsSorted less xs = Pairwise (λ x y. IsTrue (less x y)) xs

-- an element comes before the first that is greater, and in place of the like of it
abbrev pub insert_in : {X : Type 0} → (X → X → Bool) → X → List X → List X
insert_in less x [] = x ∷ []
insert_in less x (y ∷ ys) = if less x y then x ∷ y ∷ ys else (if less y x then y ∷ insert_in less x ys else y ∷ ys)

-- the elements in order, each once
abbrev pub sorted_set : {X : Type 0} → (X → X → Bool) → List X → List X
sorted_set less [] = []
sorted_set less (x ∷ xs) = insert_in less x (sorted_set less xs)
