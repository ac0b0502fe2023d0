use Rattle.std.specs.Prelude.{ℕ, List, [], ◌∷◌, Option, Some, None}
use Rattle.clause_base.specs.Choice.{Known}
use Rattle.cdcl_defs.specs.declared.event.Event.{Event}
use Rattle.cdcl_defs.specs.declared.event.Event.TheVariants.{Conflict, Force, Decide, Finish}
use Rattle.cdcl_defs.specs.State.{State, clause_at, is_on, values_of}
use Rattle.cdcl_defs.specs.Pending.{open_ones, first_pending}

-- what the pending clause with this number and these literals without a value asks for: with none it is a conflict, with one it
-- forces that literal
abbrev pub asked : ℕ → List ℕ → Event
asked number [] = Conflict number
asked number (l ∷ rest) = Force l number

-- a decision, or the end where there is nothing to choose
abbrev pub chosen_event : Option ℕ → Event
chosen_event None = Finish
chosen_event (Some l) = Decide l

-- the next event: what the first clause asks for that is kept and pending, else the choice
abbrev pub event_of : (Known → Option ℕ) → State → Event
event_of choose s =
    elim (first_pending s) [
      | Some number ↦ asked number (open_ones (is_on s.trail) (clause_at s.clauses number))
      | None ↦ chosen_event (choose (values_of s.variables s.trail))
    ]
