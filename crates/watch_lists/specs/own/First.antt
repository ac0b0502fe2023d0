-- The number of the clause that an event is of.
use Rattle.std.specs.Prelude.{ℕ, Option, Some, None}
use Rattle.cdcl_defs.specs.declared.event.Event.{Event}
use Rattle.cdcl_defs.specs.declared.event.Event.TheVariants.{Conflict, Force, Decide, Finish}

-- the number of the clause that an event is of, where it is of one
abbrev pub number_in : Event → Option ℕ
number_in (Conflict i) = Some i
number_in (Force l i) = Some i
number_in (Decide l) = None
number_in Finish = None
