-- The types of a list so far, as the definitions have them. Only private clauses speak of it.
use Rattle.pd_words.specs.declared.types.Declared.{Declared}
use Rattle.pd_words.specs.Types as types

-- the types that a `Declared` of the reader has
abbrev pub declared : Declared → types.Declared
declared d = record { names = d.names; places = d.places.items; parents = d.parents.items }
