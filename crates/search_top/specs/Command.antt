-- The commands as `clap` reads them: the arguments of each, in their order.
use Rattle.std.specs.Prelude.{Option, Some, None, List, [], ◌∷◌, codes, if◌then◌else◌}
use Rattle.std.specs.Str.{bytes_eq}
use Rattle.clap.specs.Walk.{Text, Row, Rule}
use Rattle.clap.specs.Simple.{App, new_app}
use Rattle.clap.specs.declared.builder.value_parser.ValueParser.{ValueParser}
use Rattle.requests.specs.Arguments.{word, many_words, option, number, one_among, with_rules}
use Rattle.requests.specs.Passed.{HasNumber}
use Rattle.search_top.specs.Limits.{most_count, most_memory}
use Rattle.search_top.specs.declared.command.Name.{Name}
use Rattle.search_top.specs.declared.command.Name.TheVariants.{Search, Never, NeverSearch, System, NeverFormula, NeverJudge}

-- How a walk goes: to some plan, or to a least one.
abbrev pub how_words : List Text
how_words = codes "greedy" ∷ codes "least" ∷ []

-- The formats of a transition system.
abbrev pub format_words : List Text
format_words = codes "blif" ∷ codes "aiger" ∷ []

-- The words of which the option of a command takes one, where it has such an option.
abbrev pub list_words : Name → List Text
list_words Search = how_words
list_words Never = how_words
list_words NeverSearch = how_words
list_words System = format_words
list_words NeverFormula = how_words
list_words NeverJudge = how_words

-- The word that names a command.
abbrev pub word_of : Name → Text
word_of Search = codes "search"
word_of Never = codes "never"
word_of NeverSearch = codes "never-search"
word_of System = codes "system"
word_of NeverFormula = codes "never-formula"
word_of NeverJudge = codes "never-judge"

-- What follows that word: the words in their order, then the options, of which one at most takes a word of a list, by a reader.
abbrev pub rules_of : ValueParser → Name → List Rule
rules_of by Search =
    word (codes "domain") ∷ word (codes "problem") ∷ option (codes "how") by (codes "greedy")
    ∷ number (codes "states") 1 most_count (codes "4294967295") ∷ number (codes "memory") 1 most_memory (codes "1024") ∷ []
rules_of by Never = word (codes "domain") ∷ many_words (codes "problem") ∷ []
rules_of by NeverSearch = word (codes "domain") ∷ word (codes "problem") ∷ number (codes "budget") 1 most_count (codes "1000000") ∷ []
rules_of by System = word (codes "domain") ∷ word (codes "problem") ∷ option (codes "format") by (codes "blif") ∷ []
rules_of by NeverFormula = word (codes "domain") ∷ word (codes "problem") ∷ word (codes "certificate") ∷ []
rules_of by NeverJudge = word (codes "domain") ∷ word (codes "problem") ∷ word (codes "certificate") ∷ word (codes "proof") ∷ []

-- The command of a name, whose list has this reader.
abbrev pub command_of : ValueParser → Name → App
command_of by name = with_rules (new_app (word_of name)) (rules_of by name)

-- The one simple command of a name.
abbrev pub simple_command : Name → App
simple_command name = command_of (one_among (list_words name)) name

-- The command that a word names.
abbrev pub named : Text → Option Name
named text = if bytes_eq text (codes "search") then Some Search
    else if bytes_eq text (codes "never") then Some Never
    else if bytes_eq text (codes "never-search") then Some NeverSearch
    else if bytes_eq text (codes "system") then Some System
    else if bytes_eq text (codes "never-formula") then Some NeverFormula
    else if bytes_eq text (codes "never-judge") then Some NeverJudge
    else None

-- The numbers in a command's matches are in their ranges.
abbrev pub Has : Name → List Row → Type 0
Has Search rows = HasNumber 1 most_count (codes "states") rows × HasNumber 1 most_memory (codes "memory") rows
Has Never rows = Unit {0}
Has NeverSearch rows = HasNumber 1 most_count (codes "budget") rows
Has System rows = Unit {0}
Has NeverFormula rows = Unit {0}
Has NeverJudge rows = Unit {0}
