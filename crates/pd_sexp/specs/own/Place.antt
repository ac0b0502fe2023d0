-- Whether a reader stands before the file's list.
use Rattle.std.specs.Prelude.{Bool, true, false}
use Rattle.pd_sexp.specs.declared.reader.Place.{Place}
use Rattle.pd_sexp.specs.declared.reader.Place.TheVariants.{Before, Inside, After}

-- the reader stands before the file's list
abbrev pub is_before : Place → Bool
is_before Before = true
is_before Inside = false
is_before After = false
