-- What a line says, as it stands in the end of a race.
use Rattle.std.specs.Prelude.{◌≡◌, ℕ, List}
use Rattle.std.specs.List.{AllByRecursion}
use Rattle.cdcl_defs.specs.declared.standing.Standing.{Standing}
use Rattle.cdcl_defs.specs.declared.standing.Standing.TheVariants.{Going, Found, Refuted}
use Rattle.cdcl_defs.specs.State.{State}
use Rattle.clause_base.specs.Formula.{IsModel}
use Rattle.rup_check.specs.Certificate.{Certifies}
use Rattle.horizon_run.specs.Run.{reached, truths_of}
use Rattle.race_outcome.specs.declared.line.LineEnd.{LineEnd}
use Rattle.race_outcome.specs.declared.line.LineEnd.TheVariants as ends
use Rattle.race_outcome.specs.declared.line.Line.{Line}
use Rattle.race.specs.Input.{RaceInput}

-- how the solver stands at a line with this end
abbrev pub standing_of : LineEnd → Standing
standing_of (ends.Refuted stamp) = Refuted
standing_of ends.Dropped = Going
standing_of ends.Going = Going
standing_of ends.Found = Found

-- the mark of a refuted horizon is that of its formula and of its solver's log; the values of a found one are a model of its formula
abbrev pub IsMarked : RaceInput → ℕ → State → LineEnd → Type 0
IsMarked input h state (ends.Refuted stamp) = Certifies stamp (input.formula h) state.log
IsMarked input h state ends.Dropped = Unit {0}
IsMarked input h state ends.Going = Unit {0}
IsMarked input h state ends.Found = IsModel (input.formula h) (truths_of (input.formula h) state)

-- the state of a line: that of its horizon after the line's conflicts
abbrev pub state_of_line : RaceInput → Line → State
state_of_line input line = reached (input.choose line.horizon) (input.formula line.horizon) line.conflicts

-- what a line says is so: the state after its conflicts has exactly so many, stands as its end says, and its mark is earned
pub record IsLine (input : RaceInput) (line : Line) : Type 0 where
  pub conflicts : (state_of_line input line).conflicts ≡ line.conflicts
  pub standing : (state_of_line input line).standing ≡ standing_of line.end
  pub marked : IsMarked input line.horizon (state_of_line input line) line.end

-- each line is so
abbrev pub AreLines : RaceInput → List Line → Type 0
AreLines input ls = AllByRecursion (IsLine input) ls

-- a fact of a refuted horizon
abbrev pub WhereRefuted : LineEnd → Type 0 → Type 0
WhereRefuted (ends.Refuted stamp) P = P
WhereRefuted ends.Dropped P = Unit {0}
WhereRefuted ends.Going P = Unit {0}
WhereRefuted ends.Found P = Unit {0}

-- of each refuted line's horizon
abbrev pub EachRefuted : (ℕ → Type 0) → List Line → Type 0
EachRefuted P ls = AllByRecursion (λ line. WhereRefuted line.end (P line.horizon)) ls
