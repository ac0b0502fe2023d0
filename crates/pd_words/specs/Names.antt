-- Names in order of declaration, and their numbers.
use Rattle.std.specs.Prelude.{ℕ, suc, ◌+◌, List, [], ◌∷◌, Option, Some, None, option_map, if◌then◌else◌, length}
use Rattle.std.specs.Str.{bytes_eq}
pub use Rattle.pd_model.specs.Names.{is_among}

-- the number of the first such name in a list
abbrev pub number_of : List ℕ → List (List ℕ) → Option ℕ
number_of name [] = None
number_of name (n ∷ ns) = if bytes_eq name n then Some 0 else option_map suc (number_of name ns)

-- this number, or the second one where there is none
abbrev pub or_else : Option ℕ → Option ℕ → Option ℕ
or_else (Some n) other = Some n
or_else None other = other

-- The number of a variable among lists of variables, the outermost first. Numbers go on from list to
-- list, and a variable of an inner list hides an outer one of the same name.
abbrev pub variable_number : List ℕ → ℕ → List (List (List ℕ)) → Option ℕ
variable_number name first [] = None
variable_number name first (level ∷ inner) =
    or_else (variable_number name (first + length level) inner) (option_map (λ i. first + i) (number_of name level))
