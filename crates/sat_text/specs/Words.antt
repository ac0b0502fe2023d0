-- The words of a line of text, and the numbers among them.
use Rattle.std.specs.Prelude.{ℕ, ◌+◌, ◌-◌, ◌*◌, ◌==◌, ◌||◌, ◌&&◌, not, Bool, true, false, List, [], ◌∷◌, fold, filter, nat_lt, Option, Some, None, option_map, option_and_then, if◌then◌else◌}
use Rattle.std.specs.Str.{bytes_eq}
use Rattle.std.specs.Char.{is_ascii_digit}
use Rattle.std.specs.List.{slice_split, list_all}
use Rattle.sat_text.specs.declared.words.Signed.{Signed}

-- a blank: a space, a tab or a carriage return
abbrev pub is_blank : ℕ → Bool
is_blank b = b == 32 || (b == 9 || b == 13)

-- whether there is a byte
abbrev pub is_some : List ℕ → Bool
is_some [] = false
is_some (b ∷ bytes) = true

-- the words of a line: what stands between blanks, where that is not empty
unfoldable pub words_of : List ℕ → List (List ℕ)
words_of bytes = filter is_some (slice_split is_blank bytes)

-- the number that decimal digits write after those of a number
abbrev pub value_with : ℕ → List ℕ → ℕ
value_with n digits = fold (λ n b. n * 10 + (b - 48)) n digits

-- the number that decimal digits write
unfoldable pub value_of : List ℕ → ℕ
value_of digits = value_with 0 digits

-- a word is decimal digits without a leading zero, of a number below 2 ^ 64
unfoldable pub is_natural : List ℕ → Bool
is_natural [] = false
is_natural (b ∷ word) =
    list_all is_ascii_digit (b ∷ word) && ((not (b == 48) || not (is_some word)) && nat_lt (value_of (b ∷ word)) 18446744073709551616)

-- the number that a word is
abbrev pub natural_of : List ℕ → Option ℕ
natural_of word = if is_natural word then Some (value_of word) else None

-- a number after a minus, which is not 0
abbrev pub negative : ℕ → Option Signed
negative n = if n == 0 then None else Some (record { minus = true; number = n })

-- the number that a word is, after a minus or not
unfoldable pub number_of : List ℕ → Option Signed
number_of [] = None
number_of (b ∷ word) =
    if b == 45 then option_and_then negative (natural_of word) else option_map (λ n. record { minus = false; number = n }) (natural_of (b ∷ word))

-- the number that the first of some words is
abbrev pub first_number : List (List ℕ) → Option Signed
first_number [] = None
first_number (word ∷ words) = number_of word

-- whether the first of some words is this one
abbrev pub begins_with : List ℕ → List (List ℕ) → Bool
begins_with this [] = false
begins_with this (word ∷ words) = bytes_eq word this
