use Rattle.std.specs.Prelude.{◌≡◌, ℕ, zero, suc, ◌%◌, ◌==◌, ◌&&◌, List, [], ◌∷◌, Bool, true, length}
use Rattle.std.specs.Global.{Vec}
use Rattle.std.specs.List.{list_any}
use Rattle.bit_sets.specs.Rows.{row_has}
use Rattle.two_invariants.specs.declared.by_literal.ByLiteral.{ByLiteral}

-- Numbers by key, in lists. Keys that leave one rest by the count of lists share a list.

-- the numbers of a list by its place
abbrev pub numbers_at : List (Vec ℕ) → ℕ → List ℕ
numbers_at [] k = []
numbers_at (v ∷ vs) zero = v.items
numbers_at (v ∷ vs) (suc k) = numbers_at vs k

-- the numbers of the list in which a key's stand
abbrev pub numbers_for : List (Vec ℕ) → ℕ → List ℕ
numbers_for lists key = numbers_at lists (key % length lists)

-- a number is listed for a key
abbrev pub has_number : List (Vec ℕ) → ℕ → ℕ → Bool
has_number lists key n = list_any (λ k. k == n) (numbers_for lists key)

-- a number is found by a literal
abbrev pub finds : ByLiteral → ℕ → ℕ → Bool
finds by l n = row_has by.literals l && has_number by.lists.items l n

-- what was found is found
abbrev pub FindsMore : ByLiteral → ByLiteral → Type 0
FindsMore old new = (l n : ℕ) → finds old l n ≡ true → finds new l n ≡ true
