-- Clauses by number, and which of them are packed.
use Rattle.std.specs.Prelude.{◌≡◌, ℕ, List, Bool, true, false, slice_index_or}

-- all clauses, and for each whether its literals stand so that they cannot be read
pub record StoreView : Type 0 where
  pub clauses : List (List ℕ)
  pub packed : List Bool

-- the literals of the clause with a number can be read
abbrev pub CanRead : StoreView → ℕ → Type 0
CanRead store n = slice_index_or store.packed n false ≡ false

-- those of each clause can be
abbrev pub CanReadAll : StoreView → Type 0
CanReadAll store = (n : ℕ) → CanRead store n

-- those of each kept clause can be
abbrev pub CanReadKept : List Bool → StoreView → Type 0
CanReadKept kept store = (n : ℕ) → slice_index_or kept n false ≡ true → CanRead store n
