-- Where a reader stands after some bytes of a plan file, byte by byte. Only private clauses speak of it.
use Rattle.std.specs.Prelude.{ℕ, ◌==◌, List, [], ◌∷◌, ◌++◌, length, Result, Ok, Err, if◌then◌else◌}
use Rattle.pd_sexp.specs.Bytes.{open_paren, close_paren, semicolon, line_feed, is_blank, is_letter, lowered}
use Rattle.pd_sexp.specs.Fault.{uncommented, comment_blanked}
use Rattle.pd_words.specs.Typed.{named}
use Rattle.pd_words.specs.declared.named.Named.{Named}
use Rattle.pd_plan.specs.declared.lists.WordList.{WordList}
use Rattle.pd_plan.specs.Fault.{Fault, syntax}
use Rattle.pd_words.specs.First.{after}
use Rattle.pd_plan.specs.Tokens.{Token, tokens, joined}
use Rattle.pd_plan.specs.WordLists.{word_list, lists, list_on}

-- between lists, or in the list that began at a place, after some words
pub data Place : Type 0 where
  between : Place
  inside : ℕ → List Named → Place

-- after these lists: in a gap, in a comment, or in a word that began at a place and has these letters so far
pub data State : Type 0 where
  gap : List WordList → Place → State
  comment : List WordList → Place → State
  word : List WordList → ℕ → List Named → ℕ → List ℕ → State

-- the list that began at this place ends with these words
abbrev pub closed : List WordList → ℕ → List Named → Result State Fault
closed done start words =
    if length words == 0 then Err (syntax start) else Ok (gap (done ++ word_list start words ∷ []) between)

-- a byte that is neither blank nor a semicolon, outside comments and words
abbrev pub token : List WordList → Place → ℕ → ℕ → Result State Fault
token done between at b = if b == open_paren then Ok (gap done (inside at [])) else Err (syntax at)
token done (inside start words) at b =
    if b == close_paren then closed done start words
    else if is_letter b then Ok (word done start words at (lowered b ∷ []))
    else Err (syntax at)

-- a byte outside words: a blank, the beginning of a comment, or a token
abbrev pub outside : List WordList → Place → ℕ → ℕ → Result State Fault
outside done place at b =
    if is_blank b then Ok (gap done place)
    else if b == semicolon then Ok (comment done place)
    else token done place at b

-- one byte more, at this offset
abbrev pub step : State → ℕ → ℕ → Result State Fault
step (gap done place) at b = outside done place at b
step (comment done place) at b = Ok (if b == line_feed then gap done place else comment done place)
step (word done start words first letters) at b =
    if is_letter b then Ok (word done start words first (letters ++ lowered b ∷ []))
    else outside done (inside start (words ++ named first letters ∷ [])) at b

-- the lists that were read, where the file ends here
abbrev pub finished : State → ℕ → Result (List WordList) Fault
finished (gap done between) end = Ok done
finished (comment done between) end = Ok done
finished _ end = Err (syntax end)

-- the lists that these tokens are, from a place on
abbrev pub from_place : ℕ → Place → List Token → Result (List WordList) Fault
from_place end between ts = lists end ts
from_place end (inside start words) ts = list_on end start words ts

-- the lists of a file of so many bytes, where these bytes are left, the first of which stands at this offset
abbrev pub answer : ℕ → State → ℕ → List ℕ → Result (List WordList) Fault
answer end (gap done place) at bytes = after done (from_place end place (tokens at (uncommented bytes)))
answer end (comment done place) at bytes = after done (from_place end place (tokens at (comment_blanked bytes)))
answer end (word done start words first letters) at bytes =
    after done (list_on end start words (joined first letters at (tokens at (uncommented bytes))))
