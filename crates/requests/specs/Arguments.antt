-- The arguments of a command, as `clap` reads them.
use Rattle.std.specs.Prelude.{map, ◌≡◌, ℕ, Some, List, [], ◌∷◌, pos, true}
use Rattle.clap.specs.Lexer.{usize_max}
use Rattle.clap.specs.Walk.{Text, Rule, texts}
use Rattle.clap.specs.Simple.{App, new_rule, with_rule}
use Rattle.clap.specs.declared.builder.action.ArgAction.TheVariants.{Set}
use Rattle.clap.specs.declared.builder.value_parser.ValueParser.{ValueParser}
use Rattle.clap.specs.declared.builder.value_parser.ValueParser.TheVariants as reader
use Rattle.requests.specs.Same.{somewhere}
use Rattle.requests.specs.declared.building.Argument.{Argument}
use Rattle.requests.specs.declared.building.Argument.TheVariants as argument

-- A word that has to stand there, of any text.
abbrev pub word : Text → Rule
word id = record (new_rule id) { required = true; action = Some Set }

-- A word that has to stand there, which this reader takes.
abbrev pub reading_word : Text → ValueParser → Rule
reading_word id by = record (new_rule id) { required = true; action = Some Set; parser = Some by }

-- Words of which one or more have to stand there. What a further one does is `clap`'s choice: it is added.
abbrev pub many_words : Text → Rule
many_words id = record (new_rule id) { required = true; range = Some (record { start_inclusive = 1; end_inclusive = usize_max }) }

-- `--name VALUE`, which this reader takes, and the value where it is not given.
abbrev pub option : Text → ValueParser → Text → Rule
option name by default = record (new_rule name) { long = Some name; action = Some Set; parser = Some by; defaults = default ∷ [] }

-- `--name NUMBER`, from low to high.
abbrev pub number : Text → ℕ → ℕ → Text → Rule
number name low high default = option name (reader.Signed (pos low) (pos high)) default

-- What an argument asks for.
abbrev pub rule_for : Argument → Rule
rule_for (argument.Word name) = word name.now
rule_for (argument.Words name) = many_words name.now
rule_for (argument.Read name by) = reading_word name.now by
rule_for (argument.Long name by default) = option name.now by default.now

-- The reader takes exactly these words, wherever they lie in memory.
abbrev pub TakesWords : List Text → ValueParser → Type 0
TakesWords words (reader.Names names) = texts names.now ≡ words
TakesWords words _ = ⊥

-- A reader of a list holds references. Where they lie is of no account, and here they lie at no place in particular.
abbrev pub one_among : List Text → ValueParser
one_among words = reader.Names (somewhere (map somewhere words))

-- The command with these arguments added, in their order.
abbrev pub with_rules : App → List Rule → App
with_rules app [] = app
with_rules app (r ∷ rs) = with_rules (with_rule app r) rs
