-- What words ask of a program, by its commands: the first word names one, which has to take them all.
use Rattle.std.specs.Prelude.{Option, None, List, [], ◌∷◌, if◌then◌else◌, option_and_then}
use Rattle.clap.specs.Walk.{Text, Row}
use Rattle.clap.specs.Simple.{App, matches_of}
use Rattle.clap.specs.Takes.{takes}

-- What a command's words ask for: what its matches give, where it takes the words.
abbrev pub requested_of : {Name Seen : Type 0} → (Name → App) → (Name → List Row → Option Seen) → Name → List Text → Option Seen
requested_of command seen_in name words = if takes (command name) words then seen_in name (matches_of (command name) words) else None

-- The command that the first word names, where there is one.
abbrev pub command_named : {Name : Type 0} → (Text → Option Name) → List Text → Option Name
command_named named [] = None
command_named named (word ∷ words) = named word

-- What the words ask for: the first names the command.
abbrev pub requested : {Name Seen : Type 0} → (Text → Option Name) → (Name → App) → (Name → List Row → Option Seen) → List Text → Option Seen
requested named command seen_in words = option_and_then (λ name. requested_of command seen_in name words) (command_named named words)
