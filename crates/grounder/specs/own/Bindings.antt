-- The tuples of objects for variables, by number.
use Rattle.std.specs.Prelude.{ℕ, ◌≡◌, ◌*◌, ◌/◌, ◌%◌, List, [], ◌∷◌, length, map, slice_index}
use Rattle.pd_model.specs.Fits.{fitting}
use Rattle.pd_model.specs.declared.parts.Parts.{Parts}
use Rattle.grounder.specs.declared.bindings.Bindings.{Bindings}

-- the product of numbers
abbrev pub product : List ℕ → ℕ
product [] = 1
product (n ∷ ns) = n * product ns

-- how many tuples there are with one object of each list
abbrev pub size : List (List ℕ) → ℕ
size domains = product (map (λ d. length d) domains)

-- the tuple of a number: the last object changes first
abbrev pub tuple_at : List (List ℕ) → ℕ → List ℕ
tuple_at [] n = []
tuple_at (d ∷ domains) n = slice_index d (n / size domains) ∷ tuple_at domains (n % size domains)

-- the objects that fit each of these types, and how many tuples of them there are
pub record AreBindings (p : Parts) (over : List ℕ) (b : Bindings) : Type 0 where
  pub domains : b.domains.items ≡ map (fitting p) over
  pub count : b.count ≡ size b.domains.items
