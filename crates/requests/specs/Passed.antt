-- The values that a parse gives, and what their readers say of them.
use Rattle.std.specs.Prelude.{◌≡◌, ℕ, Some, List, [], pos, unwrap_or}
use Rattle.std.specs.Option.{option_map_or}
use Rattle.std.specs.Str.Parse.{digits_value, without_leading_plus}
use Rattle.clap.specs.Lexer.{without_minus}
use Rattle.clap.specs.Values.{Accepts, IsSignedIn, read_as, reading_of}
use Rattle.clap.specs.Walk.{Text, Row, Rule, arg_by_id, one_of, first_of, all_of}
use Rattle.clap.specs.declared.builder.value_parser.ValueParser.{ValueParser}

-- The text of an argument.
abbrev pub text_at : Text → List Row → Text
text_at id rows = unwrap_or (first_of id rows) []

-- The texts of an argument, in the order of the words.
abbrev pub texts_at : Text → List Row → List Text
texts_at id rows = unwrap_or (all_of id rows) []

-- The number of an argument.
abbrev pub number_at : Text → List Row → ℕ
number_at id rows = option_map_or (λ text. digits_value 10 (without_leading_plus text)) (one_of id rows) 0

-- An argument has a number that its reader took, from low to high.
abbrev pub HasNumber : (low high : ℕ) → Text → List Row → Type 0
HasNumber low high id rows = (text : Text) × (one_of id rows ≡ Some (without_minus text)) × IsSignedIn (pos low) (pos high) text

-- The value of each argument with a reader passed it.
abbrev pub Passed : List Rule → List Row → Type 0
Passed rules rows = (id : Text) (r : Rule) (by : ValueParser) → arg_by_id rules id ≡ Some r → r.parser ≡ Some by
    → (text : Text) × (one_of id rows ≡ Some (read_as (reading_of by) text)) × Accepts r.ignore_case by text
