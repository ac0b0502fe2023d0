-- Lists without repeats.
use Rattle.std.specs.Prelude.{◌≡◌, ℕ, List, Some, slice_get}

-- no two places of a list have the same item
abbrev pub AreDistinct : {X : Type 0} → List X → Type 0
AreDistinct {X} items = (i j : ℕ) (x : X) → slice_get items i ≡ Some x → slice_get items j ≡ Some x → i ≡ j
