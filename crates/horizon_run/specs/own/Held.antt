-- The run that a place holds, however far it is.
use Rattle.std.specs.Prelude.{ℕ, true}
use Rattle.horizon_run.specs.Run.{RunView, choice_in, moved_to, IsReached, Stays}
use Rattle.horizon_run.specs.declared.held.Held.{Held}
use Rattle.horizon_run.specs.declared.held.Held.TheVariants.{Unmade, Made, Lost}

-- a run that could not be made: it was granted nothing, and is spoilt
abbrev pub lost_of : RunView → RunView
lost_of r = record (moved_to r 0) { spoilt = true }

-- the run that clients see: one that is not made is seen as the run that it makes, a lost one as spoilt
abbrev pub run_in : Held → RunView
run_in (Unmade r old) = r
run_in (Made r) = r
run_in (Lost lost) = lost_of lost.run

-- what is known of the runs of a formula, by whichever choice
pub record IsOfLaws (r : RunView) : Type 0 where
  pub reached_by : (k : ℕ) → IsReached (choice_in r) r.formula k
  pub settled : Stays (choice_in r) r.formula

-- it is known of a run that could not be made
abbrev pub HasLaws : Held → Type 0
HasLaws (Unmade r old) = Unit {0}
HasLaws (Made r) = Unit {0}
HasLaws (Lost lost) = IsOfLaws lost.run
