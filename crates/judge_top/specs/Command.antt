-- The commands as `clap` reads them: the arguments of each, in their order.
use Rattle.std.specs.Prelude.{Option, Some, None, List, [], ◌∷◌, codes, pos, if◌then◌else◌}
use Rattle.std.specs.Str.{bytes_eq}
use Rattle.clap.specs.Walk.{Text, Rule}
use Rattle.clap.specs.Simple.{App, new_app}
use Rattle.clap.specs.declared.builder.value_parser.ValueParser.{ValueParser}
use Rattle.clap.specs.declared.builder.value_parser.ValueParser.TheVariants as reader
use Rattle.requests.specs.Arguments.{word, reading_word, option, one_among, with_rules}
use Rattle.judge_top.specs.declared.command.Name.{Name}
use Rattle.judge_top.specs.declared.command.Name.TheVariants.{Formula, Judge, Model}
use Rattle.horizon_rates.specs.Limits.{last_horizon}

-- The kinds of steps.
abbrev pub step_words : List Text
step_words = codes "exists" ∷ codes "all" ∷ []

-- The reader of that list.
abbrev pub steps_list : ValueParser
steps_list = one_among step_words

-- The word of the horizon.
abbrev pub horizon_word : Rule
horizon_word = reading_word (codes "horizon") (reader.Signed (pos 0) (pos last_horizon))

-- The one simple command of a name: the word that names it, and the words in their order, then the option.
abbrev pub command_of : ValueParser → Name → App
command_of by Formula = with_rules (new_app (codes "formula")) (word (codes "domain") ∷ word (codes "problem") ∷ horizon_word ∷ option (codes "steps") by (codes "exists") ∷ [])
command_of by Judge = with_rules (new_app (codes "judge")) (word (codes "domain") ∷ word (codes "problem") ∷ horizon_word ∷ word (codes "proof") ∷ option (codes "steps") by (codes "exists") ∷ [])
command_of by Model = with_rules (new_app (codes "model")) (word (codes "domain") ∷ word (codes "problem") ∷ horizon_word ∷ word (codes "model") ∷ option (codes "steps") by (codes "exists") ∷ [])

-- The command that a word names.
abbrev pub named : Text → Option Name
named text = if bytes_eq text (codes "formula") then Some Formula
    else if bytes_eq text (codes "judge") then Some Judge
    else if bytes_eq text (codes "model") then Some Model
    else None
