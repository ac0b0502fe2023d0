-- The front of a text, cut off where its bytes change kind.
use Rattle.std.specs.Prelude.{ℕ, Bool, true, not, List, [], ◌∷◌, if◌then◌else◌}
use Rattle.std.specs.Char.{is_ascii_digit}
use Rattle.sat_text.specs.Words.{is_blank}

-- what follows the blanks at the front
abbrev pub after_blanks : List ℕ → List ℕ
after_blanks [] = []
after_blanks (b ∷ bytes) = if is_blank b then after_blanks bytes else b ∷ bytes

-- whether a byte is no digit
abbrev pub is_other : ℕ → Bool
is_other b = not (is_ascii_digit b)

-- the digits at the front
abbrev pub digits_front : List ℕ → List ℕ
digits_front [] = []
digits_front (b ∷ bytes) = if is_ascii_digit b then b ∷ digits_front bytes else []

-- what follows them
abbrev pub after_digits : List ℕ → List ℕ
after_digits [] = []
after_digits (b ∷ bytes) = if is_ascii_digit b then after_digits bytes else b ∷ bytes

-- the front that no blank cuts off, and what follows it
abbrev pub word_front : List ℕ → List ℕ
word_front [] = []
word_front (b ∷ bytes) = if is_blank b then [] else b ∷ word_front bytes

-- the text from its first blank on
abbrev pub after_word : List ℕ → List ℕ
after_word [] = []
after_word (b ∷ bytes) = if is_blank b then b ∷ bytes else after_word bytes

-- whether a word ends at the front: there is nothing, or a blank
abbrev pub ends_word : List ℕ → Bool
ends_word [] = true
ends_word (b ∷ bytes) = is_blank b
