-- Lists whose items stand one after another in one list, with a list of where each ends.
use Rattle.std.specs.Prelude.{◌≡◌, ◌≤◌, ℕ, zero, suc, List, [], ◌∷◌}
use Rattle.std.specs.List.{slice_range}

-- the lists that end at these places, where the first begins at a place
abbrev pub pieces : {A : Type 0} → ℕ → List A → List ℕ → List (List A)
pieces from items [] = []
pieces from items (end ∷ ends) = slice_range items from end ∷ pieces end items ends

-- the ends never fall, and the last one is the end of all items
abbrev pub AreEnds : ℕ → List ℕ → ℕ → Type 0
AreEnds from [] long = from ≡ long
AreEnds from (end ∷ ends) long = (from ≤ end) × AreEnds end ends long

-- where the list with a number begins: at the end of the one before it, or where the first does
abbrev pub start_of : ℕ → List ℕ → ℕ → ℕ
start_of from [] number = from
start_of from (end ∷ ends) zero = from
start_of from (end ∷ ends) (suc number) = start_of end ends number
