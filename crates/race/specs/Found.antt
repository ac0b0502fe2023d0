-- The least found horizon, and the lines of a race.
use Rattle.std.specs.Prelude.{List, [], ◌∷◌, ◌++◌, map, Bool, true, false, Option, Some, None, if◌then◌else◌}
use Rattle.cdcl_defs.specs.declared.standing.Standing.{Standing}
use Rattle.cdcl_defs.specs.declared.standing.Standing.TheVariants.{Going, Found, Refuted}
use Rattle.race_outcome.specs.Ends.{Word, WordRefuted, WordOpen, WordPlan, LineView}
use Rattle.race.specs.State.{LiveRun, RaceState}

-- the solver found an assignment
abbrev pub is_found : Standing → Bool
is_found Going = false
is_found Found = true
is_found Refuted = false

-- the least live horizon that is found
abbrev pub first_found : List LiveRun → Option LiveRun
first_found [] = None
first_found (r ∷ rs) = if is_found r.state.standing then Some r else first_found rs

-- the line of a live horizon
abbrev pub open_word : Standing → Word
open_word Going = WordOpen
open_word Found = WordPlan
open_word Refuted = WordRefuted

-- the line of a horizon that is live when the race ends
abbrev pub open_line : LiveRun → LineView
open_line r = record { horizon = r.horizon; conflicts = r.state.conflicts; word = open_word r.state.standing }

-- a line for each started horizon
abbrev pub lines : RaceState → List LineView
lines race = race.closed ++ map open_line race.live
