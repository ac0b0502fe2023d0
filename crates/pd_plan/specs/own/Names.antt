-- Where names are looked up: private clauses alone speak of it.
use Rattle.std.specs.Prelude.{ℕ, List, Option, option_map, slice_index}
use Rattle.pd_words.specs.Names.{number_of}
use Rattle.pd_plan.specs.declared.names.NameNumbers.{NameNumbers}

-- the number that a name has
abbrev pub looked_up : NameNumbers → List ℕ → Option ℕ
looked_up numbers name = option_map (slice_index numbers.firsts.items) (number_of name numbers.table)
