-- What words ask for.
use Rattle.std.specs.Prelude.{Option, List}
use Rattle.clap.specs.Walk.{Text}
use Rattle.requests.specs.Asked as asked
use Rattle.judge_top.specs.declared.command.Name.{Name}
use Rattle.judge_top.specs.Command.{command_of, steps_list, named}
use Rattle.judge_top.specs.Seen.{Seen, some_in}

-- The command that the first word names, where there is one.
abbrev pub command_named : List Text → Option Name
command_named words = asked.command_named named words

-- What the words ask for: the first names the command, which has to take them all.
abbrev pub requested : List Text → Option Seen
requested words = asked.requested named (command_of steps_list) some_in words
