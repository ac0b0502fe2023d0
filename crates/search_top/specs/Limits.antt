-- What the words may ask for at most.
use Rattle.std.specs.Prelude.{ℕ}

-- how many states, or obligations of a search for a certificate, may be asked for: as many as have numbers
abbrev pub most_count : ℕ
most_count = 4294967295

-- how many megabytes the tables may be allowed
abbrev pub most_memory : ℕ
most_memory = 1048576
