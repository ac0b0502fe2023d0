-- Pages of numbers, one after another.
use Rattle.std.specs.Prelude.{◌≡◌, ◌≤◌, List, [], ◌∷◌, ◌++◌, length}

-- the items of all pages
abbrev pub joined : {A : Type 0} → List (List A) → List A
joined [] = []
joined (page ∷ pages) = page ++ joined pages

-- each page but the last has 128 items, and the last has no more: so a number tells its page and its place there by a division
abbrev pub AreFull : {A : Type 0} → List (List A) → Type 0
AreFull [] = Unit {0}
AreFull (page ∷ []) = length page ≤ 128
AreFull (page ∷ next ∷ pages) = (length page ≡ 128) × AreFull (next ∷ pages)

-- each page has 128 items
abbrev pub AreWhole : {A : Type 0} → List (List A) → Type 0
AreWhole [] = Unit {0}
AreWhole (page ∷ pages) = (length page ≡ 128) × AreWhole pages
