-- A line of LRAT text: `ID LITERALS 0 HINTS 0`, which adds a clause, `ID d IDS 0`, which deletes clauses, or one that tells nothing.
use Rattle.std.specs.Prelude.{◌≡◌, ◌-◌, ◌==◌, ◌||◌, not, ℕ, Bool, true, false, List, [], ◌∷◌, map, filter, drop, length, nat_le, codes, Option, Some, None, option_map, option_and_then, if◌then◌else◌}
use Rattle.std.specs.List.{list_any}
use Rattle.clause_base.specs.Literal.{literal_of}
use Rattle.std.specs.Str.{bytes_eq}
use Rattle.sat_text.specs.declared.words.Signed.{Signed}
use Rattle.sat_text.specs.declared.lrat_line.Line.{Line}
use Rattle.sat_text.specs.Words.{words_of, first_number, begins_with, number_of}

-- a line: its id, whether it deletes clauses, the literals of the clause that it adds, and the hints, or the ids of what it deletes
pub record LineView : Type 0 where
  pub id : ℕ
  pub deletes : Bool
  pub literals : List Signed
  pub hints : List Signed

-- the numbers up to a 0, and the words after it; none where a word before the 0 is no number, or there is no 0
abbrev pub up_to_zero : List (List ℕ) → Option (List Signed × List (List ℕ))
up_to_zero [] = None
up_to_zero (word ∷ words) =
    option_and_then (λ told. if told.number == 0 then Some ([], words) else option_map (λ more. (told ∷ more.0, more.1)) (up_to_zero words)) (number_of word)

-- the numbers of words that end with their first 0
abbrev pub all_to_zero : List (List ℕ) → Option (List Signed)
all_to_zero words = option_and_then (λ read. if length read.1 == 0 then Some read.0 else None) (up_to_zero words)

-- the line of an id and these words, which adds a clause
abbrev pub addition : ℕ → List (List ℕ) → Option LineView
addition id words =
    option_and_then (λ read. option_map (λ hints. record { id = id; deletes = false; literals = read.0; hints = hints }) (all_to_zero read.1)) (up_to_zero words)

-- the line of an id and these words, which deletes clauses; no id has a minus
abbrev pub deletion : ℕ → List (List ℕ) → Option LineView
deletion id words =
    option_and_then (λ ids. if list_any (λ told. told.minus) ids then None else Some (record { id = id; deletes = true; literals = []; hints = ids })) (all_to_zero words)

-- the line of an id and these words, which deletes clauses or adds one
abbrev pub rest_of : Bool → ℕ → List (List ℕ) → Option LineView
rest_of deletes id words = if deletes then deletion id words else addition id words

-- the line of an id, which has no minus, and the words after it
abbrev pub line_with : Signed → List (List ℕ) → Option LineView
line_with id words = if id.minus then None else if begins_with (codes "d") words then deletion id.number (drop 1 words) else addition id.number words

-- the line that bytes spell
unfoldable pub line_of : List ℕ → Option LineView
line_of bytes = option_and_then (λ id. line_with id (drop 1 (words_of bytes))) (first_number (words_of bytes))

-- whether a line of these words tells nothing: there is none, or the first is `c`, which begins a comment
abbrev pub is_passed : List (List ℕ) → Bool
is_passed [] = true
is_passed (word ∷ words) = bytes_eq word (codes "c")

-- a literal of a variable that has a code: variables are counted from 1 up to 2 ^ 31
abbrev pub has_code : Signed → Bool
has_code told = nat_le told.number 2147483648

-- its code
abbrev pub code_of : Signed → ℕ
code_of told = literal_of (told.number - 1) (not told.minus)

-- the codes of the literals that have one
abbrev pub codes_of : List Signed → List ℕ
codes_of literals = map code_of (filter has_code literals)

-- the hints without a minus
abbrev pub plain_ids : List Signed → List ℕ
plain_ids hints = map (λ told. told.number) (filter (λ told. not told.minus) hints)

-- whether a line asks for more than reverse unit propagation over the variables that have codes
abbrev pub is_foreign : LineView → Bool
is_foreign line = list_any (λ told. not (has_code told)) line.literals || list_any (λ told. told.minus) line.hints

-- what is held of a line
pub record IsHeld (line : LineView) (held : Line) : Type 0 where
  pub id : held.id ≡ line.id
  pub deletes : held.deletes ≡ line.deletes
  pub literals : held.lits.items ≡ codes_of line.literals
  pub hints : held.ids.items ≡ plain_ids line.hints
  pub foreign : held.foreign ≡ is_foreign line
