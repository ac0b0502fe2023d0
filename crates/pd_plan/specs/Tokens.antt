-- The tokens of a plan file, each at its first byte.
use Rattle.std.specs.Prelude.{ℕ, ◌+◌, ◌==◌, List, [], ◌∷◌, ◌++◌, if◌then◌else◌}
use Rattle.pd_sexp.specs.Bytes.{open_paren, close_paren, is_blank, is_letter, lowered}

-- a parenthesis, a word in small letters, or a byte that stands in no text, each with its offset
pub data Token : Type 0 where
  opening : ℕ → Token
  closing : ℕ → Token
  word : ℕ → List ℕ → Token
  wrong : ℕ → Token

-- a byte that is neither blank nor of a word
abbrev pub sign : ℕ → ℕ → Token
sign at b = if b == open_paren then opening at else if b == close_paren then closing at else wrong at

-- these tokens after letters that stand from `start` up to `end`: a word that begins at `end` goes on from them
abbrev pub joined : ℕ → List ℕ → ℕ → List Token → List Token
joined start letters end (word first more ∷ tokens) =
    if first == end then word start (letters ++ more) ∷ tokens else word start letters ∷ word first more ∷ tokens
joined start letters end tokens = word start letters ∷ tokens

-- the tokens of bytes without comments, the first of which stands at this offset: blanks part them, and
-- letters in a row are one word, in small letters
abbrev pub tokens : ℕ → List ℕ → List Token
tokens at [] = []
tokens at (b ∷ bs) =
    if is_blank b then tokens (at + 1) bs
    else if is_letter b then joined at (lowered b ∷ []) (at + 1) (tokens (at + 1) bs)
    else sign at b ∷ tokens (at + 1) bs
