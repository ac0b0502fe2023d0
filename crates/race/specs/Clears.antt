-- The live horizons up to the last refuted one are live no more; those of them that are not refuted are dropped.
use Rattle.std.specs.Prelude.{List, [], ◌∷◌, ◌++◌, Bool, true, false, if◌then◌else◌}
use Rattle.std.specs.List.{list_any}
use Rattle.cdcl_defs.specs.declared.standing.Standing.{Standing}
use Rattle.cdcl_defs.specs.declared.standing.Standing.TheVariants.{Going, Found, Refuted}
use Rattle.race_outcome.specs.Ends.{Word, WordRefuted, WordDropped, LineView}
use Rattle.race.specs.State.{LiveRun, RaceState}

-- the solver refuted its formula
abbrev pub is_refuted : Standing → Bool
is_refuted Going = false
is_refuted Found = false
is_refuted Refuted = true

-- the word of a horizon that is live no more
abbrev pub passed_word : Standing → Word
passed_word s = if is_refuted s then WordRefuted else WordDropped

-- its line
abbrev pub passed_line : LiveRun → LineView
passed_line r = record { horizon = r.horizon; conflicts = r.state.conflicts; word = passed_word r.state.standing }

-- some live horizon is refuted
abbrev pub any_refuted : List LiveRun → Bool
any_refuted rs = list_any (λ r. is_refuted r.state.standing) rs

-- the lines of the horizons up to the last refuted one
abbrev pub passed : List LiveRun → List LineView
passed [] = []
passed (r ∷ rs) = if any_refuted (r ∷ rs) then passed_line r ∷ passed rs else []

-- the live horizons after the last refuted one
abbrev pub staying : List LiveRun → List LiveRun
staying [] = []
staying (r ∷ rs) = if any_refuted (r ∷ rs) then staying rs else r ∷ rs

-- the race once the horizons up to the last refuted one are live no more, each with its line
unfoldable pub cleared : RaceState → RaceState
cleared race = record race { live = staying race.live; closed = race.closed ++ passed race.live }
