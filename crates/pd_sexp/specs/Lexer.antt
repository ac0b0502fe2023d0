-- Blanks, comments and words, byte by byte: where a lexer stands, and what each byte comes to.
use Rattle.std.specs.Prelude.{ℕ, ◌==◌, Bool, true, false, ◌||◌, not, if◌then◌else◌, List, [], ◌∷◌, ◌++◌}
use Rattle.pd_sexp.specs.Bytes.{semicolon, line_feed, is_blank, is_letter, lowered}
use Rattle.pd_sexp.specs.declared.lexer.Spot.{Spot}
use Rattle.pd_sexp.specs.declared.lexer.Spot.TheVariants.{Gap, Comment, Word}
use Rattle.pd_sexp.specs.declared.lexer.Lexed.{Lexed}
use Rattle.pd_sexp.specs.declared.lexer.Lexed.TheVariants.{Nothing, Token, Ended}

-- in a gap, in a comment, or in a word that began at an offset and has these letters so far
pub data Standing : Type 0 where
  gap : Standing
  comment : Standing
  word : ℕ → List ℕ → Standing

-- what the fields of a `Lexer` stand for
abbrev pub standing_of : Spot → ℕ → List ℕ → Standing
standing_of Gap start letters = gap
standing_of Comment start letters = comment
standing_of Word start letters = word start letters

-- a byte that is neither blank nor the beginning of a comment
abbrev pub is_token : ℕ → Bool
is_token b = not (is_blank b || b == semicolon)

-- after a byte outside comments and words; whether a letter begins a word is for the reader to say
abbrev pub outside : ℕ → Standing
outside b = if b == semicolon then comment else gap

-- after one byte more
abbrev pub next : Standing → ℕ → Standing
next gap b = outside b
next comment b = if b == line_feed then gap else comment
next (word start letters) b = if is_letter b then word start (letters ++ lowered b ∷ []) else outside b

-- what this byte comes to: nothing, a token, or the end of the word before it and maybe a token
abbrev pub lexed : Standing → ℕ → Lexed
lexed gap b = if is_token b then Token else Nothing
lexed comment b = Nothing
lexed (word start letters) b = if is_letter b then Nothing else Ended start letters (is_token b)

-- whether a word is being read
abbrev pub in_word : Standing → Bool
in_word gap = false
in_word comment = false
in_word (word start letters) = true
