-- What words ask for.
use Rattle.std.specs.Prelude.{Option, List}
use Rattle.clap.specs.Walk.{Text, Row}
use Rattle.requests.specs.Asked as asked
use Rattle.requests.specs.declared.command.Name.{Name}
use Rattle.requests.specs.Command.{command_of, lists, named}
use Rattle.requests.specs.Seen.{Seen, counted, seen_in}

-- What a command's matches ask for, where there are as many problems as may be.
abbrev pub counted_in : Name → List Row → Option Seen
counted_in name rows = counted (seen_in name rows)

-- The command that the first word names, where there is one.
abbrev pub command_named : List Text → Option Name
command_named words = asked.command_named named words

-- What the words ask for: the first names the command, which has to take them all.
abbrev pub requested : List Text → Option Seen
requested words = asked.requested named (command_of lists) counted_in words
