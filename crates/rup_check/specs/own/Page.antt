-- A page of numbers, some of which have a clause.
use Rattle.std.specs.Prelude.{◌≡◌, ℕ, ◌<◌, ◌⊎◌, List, [], ◌∷◌, map, slice_get, Option}

-- where the clause of a number stands among the clauses of a page: at a place, or nowhere
abbrev pub IsSlot : ℕ → ℕ → Type 0
IsSlot count slot = (slot < count) ⊎ (slot ≡ 255)

-- each number's clause stands at a place or nowhere, so that a clause is found by one look
abbrev pub AreSlots : ℕ → List ℕ → Type 0
AreSlots count [] = Unit {0}
AreSlots count (slot ∷ slots) = IsSlot count slot × AreSlots count slots

-- the clauses of the numbers of a page
abbrev pub clauses_at : List (List ℕ) → List ℕ → List (Option (List ℕ))
clauses_at lists slots = map (slice_get lists) slots
