use Rattle.std.specs.Prelude.{◌≡◌, ℕ, ◌/◌, ◌<◌, length, None}
use Rattle.clause_base.specs.Choice.{Known, IsOpenChoice}
use Rattle.cdcl_defs.specs.declared.event.Event.{Event}
use Rattle.cdcl_defs.specs.declared.event.Event.TheVariants.{Conflict, Force, Decide, Finish}
use Rattle.cdcl_defs.specs.State.{State, value_of}
use Rattle.std.specs.Prelude.{Option}

-- the literal of an event is of one of the variables, which has no value
abbrev pub IsOpenEvent : State → Event → Type 0
IsOpenEvent s (Conflict i) = Unit {0}
IsOpenEvent s (Force l i) = (l / 2 < s.variables) × (value_of s.trail (l / 2) ≡ None)
IsOpenEvent s (Decide l) = (l / 2 < s.variables) × (value_of s.trail (l / 2) ≡ None)
IsOpenEvent s Finish = Unit {0}

-- the choices over n variables are open
abbrev pub Opens : ℕ → (Known → Option ℕ) → Type 0
Opens n choose = (values : Known) → length values ≡ n → IsOpenChoice values (choose values)
