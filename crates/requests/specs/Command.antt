-- The commands as `clap` reads them: the arguments of each, in their order.
use Rattle.std.specs.Prelude.{Option, Some, None, List, [], ◌∷◌, ◌++◌, codes, pos, if◌then◌else◌}
use Rattle.std.specs.Str.{bytes_eq}
use Rattle.clap.specs.Walk.{Text, Rule}
use Rattle.clap.specs.Simple.{App, new_app}
use Rattle.clap.specs.declared.builder.value_parser.ValueParser.{ValueParser}
use Rattle.clap.specs.declared.builder.value_parser.ValueParser.TheVariants as reader
use Rattle.requests.specs.Arguments.{word, reading_word, many_words, option, number, one_among, TakesWords, with_rules}
use Rattle.requests.specs.declared.command.Name.{Name}
use Rattle.requests.specs.declared.command.Name.TheVariants.{Plan, Check, Ground, Order, Gen, Prove, Verify, Batch}
use Rattle.requests.specs.declared.command.Readers.{Readers}
use Rattle.requests.specs.declared.request.Stepping.TheVariants.{Exists, All}
use Rattle.horizon_rates.specs.Limits.{last_horizon}

-- The words of each list.
abbrev pub algorithm_words : List Text
algorithm_words = codes "a" ∷ codes "b" ∷ codes "c" ∷ []

-- The words of the kinds of generated tasks.
abbrev pub kind_words : List Text
kind_words = codes "corridor" ∷ codes "gripper" ∷ []

-- The words that say what `gen` shows.
abbrev pub show_words : List Text
show_words = codes "none" ∷ codes "domain" ∷ codes "problem" ∷ []

-- The words of the orders of turns of a batch.
abbrev pub turn_words : List Text
turn_words = codes "forward" ∷ codes "backward" ∷ []

-- The readers of the lists.
abbrev pub lists : Readers
lists = record { algorithms = one_among algorithm_words; kinds = one_among kind_words; shows = one_among show_words; turns = one_among turn_words }

-- The readers take the words of these lists, wherever they lie in memory.
pub record AreReaders (by : Readers) : Type 0 where
  pub algorithms : TakesWords algorithm_words by.algorithms
  pub kinds : TakesWords kind_words by.kinds
  pub shows : TakesWords show_words by.shows
  pub turns : TakesWords turn_words by.turns

-- The options of a race: the window's, the list's, those of the work, and that of the workers.
abbrev pub window_options : ValueParser → List Rule
window_options algorithms =
    option (codes "alg") algorithms (codes "a")
    ∷ number (codes "width") 1 16 (codes "4")
    ∷ number (codes "quota") 1 10000 (codes "50")
    ∷ number (codes "percent") 1 99 (codes "50")
    ∷ []

-- The options of the horizon list.
abbrev pub list_options : List Rule
list_options =
    number (codes "growth") 101 400 (codes "150")
    ∷ number (codes "start") 0 last_horizon (codes "0")
    ∷ number (codes "max-horizon") 0 last_horizon (codes "64")
    ∷ []

-- The option of the budget.
abbrev pub budget_option : Rule
budget_option = number (codes "budget") 0 1000000 (codes "100000")

-- The options of the budget and of the slice.
abbrev pub work_options : List Rule
work_options = budget_option ∷ number (codes "slice") 1 10000 (codes "10") ∷ []

-- The option of the workers.
abbrev pub workers_option : Rule
workers_option = number (codes "workers") 1 16 (codes "4")

-- All but that of the workers.
abbrev pub race_options : ValueParser → List Rule
race_options algorithms = window_options algorithms ++ (list_options ++ work_options)

-- All options of a race.
abbrev pub options : ValueParser → List Rule
options algorithms = race_options algorithms ++ workers_option ∷ []

-- The words of the two files that are a task.
abbrev pub two : List Rule
two = word (codes "domain") ∷ word (codes "problem") ∷ []

-- The word that names a command.
abbrev pub word_of : Name → Text
word_of (Plan Exists) = codes "plan"
word_of (Plan All) = codes "plan-all"
word_of Check = codes "check"
word_of Ground = codes "ground"
word_of Order = codes "order"
word_of Gen = codes "gen"
word_of Prove = codes "prove"
word_of Verify = codes "verify"
word_of Batch = codes "batch"

-- What follows that word: the words in their order, then the options.
abbrev pub rules_of : Readers → Name → List Rule
rules_of by (Plan stepping) = two ++ options by.algorithms
rules_of by Check = two ++ word (codes "plan") ∷ []
rules_of by Ground = two
rules_of by Order = two
rules_of by Gen = reading_word (codes "kind") by.kinds
    ∷ reading_word (codes "number") (reader.Signed (pos 1) (pos 64))
    ∷ (options by.algorithms ++ option (codes "show") by.shows (codes "none") ∷ [])
rules_of by Prove = two ++ reading_word (codes "horizon") (reader.Signed (pos 0) (pos last_horizon)) ∷ budget_option ∷ []
rules_of by Verify = two ++ word (codes "certificate") ∷ []
rules_of by Batch = word (codes "domain") ∷ many_words (codes "problem")
    ∷ (race_options by.algorithms ++ option (codes "turns") by.turns (codes "forward") ∷ [])

-- The one simple command of a name.
abbrev pub command_of : Readers → Name → App
command_of by name = with_rules (new_app (word_of name)) (rules_of by name)

-- The command that a word names.
abbrev pub named : Text → Option Name
named text = if bytes_eq text (codes "plan") then Some (Plan Exists)
    else if bytes_eq text (codes "plan-all") then Some (Plan All)
    else if bytes_eq text (codes "check") then Some Check
    else if bytes_eq text (codes "ground") then Some Ground
    else if bytes_eq text (codes "order") then Some Order
    else if bytes_eq text (codes "gen") then Some Gen
    else if bytes_eq text (codes "prove") then Some Prove
    else if bytes_eq text (codes "verify") then Some Verify
    else if bytes_eq text (codes "batch") then Some Batch
    else None
