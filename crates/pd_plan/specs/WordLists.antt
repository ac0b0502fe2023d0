-- The lists of words that the bytes of a plan file are.
use Rattle.std.specs.Prelude.{ℕ, ◌==◌, List, [], ◌∷◌, ◌++◌, length, Result, Ok, Err, if◌then◌else◌}
use Rattle.pd_sexp.specs.Fault.{uncommented}
use Rattle.pd_words.specs.Typed.{named}
use Rattle.pd_words.specs.declared.named.Named.{Named}
use Rattle.pd_plan.specs.declared.lists.WordList.{WordList}
use Rattle.pd_plan.specs.Fault.{Fault, syntax}
use Rattle.pd_words.specs.First.{◌>>=◌}
use Rattle.pd_plan.specs.Tokens.{Token, opening, closing, word, wrong, tokens}

-- the list that opens at this offset
abbrev pub word_list : ℕ → List Named → WordList
word_list at words = record { at = at; words = words }

-- Of a text that has so many bytes:
abbrev mutual
  -- the lists that stand next
  pub lists : ℕ → List Token → Result (List WordList) Fault
  lists end [] = Ok []
  lists end (opening at ∷ ts) = list_on end at [] ts
  lists end (closing at ∷ ts) = Err (syntax at)
  lists end (word at text ∷ ts) = Err (syntax at)
  lists end (wrong at ∷ ts) = Err (syntax at)

  -- the list that began at this place, with these words so far, and the lists after it
  pub list_on : ℕ → ℕ → List Named → List Token → Result (List WordList) Fault
  list_on end start words [] = Err (syntax end)
  list_on end start words (word at text ∷ ts) = list_on end start (words ++ named at text ∷ []) ts
  list_on end start words (closing at ∷ ts) =
      if length words == 0 then Err (syntax start)
      else (lists end ts >>= λ more. Ok (word_list start words ∷ more))
  list_on end start words (opening at ∷ ts) = Err (syntax at)
  list_on end start words (wrong at ∷ ts) = Err (syntax at)

-- the lists of words that the bytes are, or the first fault: a wrong byte, a word outside a list, a list
-- inside a list, a parenthesis too many, an empty list (told where it opens), an unclosed list (told at the length)
abbrev pub word_lists : List ℕ → Result (List WordList) Fault
word_lists bytes = lists (length bytes) (tokens 0 (uncommented bytes))
