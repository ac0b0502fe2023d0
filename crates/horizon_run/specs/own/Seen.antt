-- The run of a horizon that may be ahead of its grants, and what clients see of it.
use Rattle.std.specs.Prelude.{◌≡◌, ℕ, false, ◌≤◌, if◌then◌else◌, Option, IfSome}
use Rattle.cdcl_defs.specs.declared.standing.Standing.TheVariants.{Going, Refuted}
use Rattle.rup_check.specs.Certificate.{Stamp, Certifies}
use Rattle.horizon_run.specs.Run.{RunView, moved_to}

-- a run where so many granted conflicts have it, whatever its solver handled beyond them; a spoilt one as its solver is, with these grants
abbrev pub seen_of : RunView → ℕ → RunView
seen_of r granted = if r.spoilt then record r { granted = granted } else moved_to r granted

-- a run is not spoilt, and the granted conflicts, at most 2^30, lead to a state that goes on and has handled all of them
pub record IsBehind (r : RunView) (granted : ℕ) : Type 0 where
  pub sane : r.spoilt ≡ false
  pub going : (seen_of r granted).state.standing ≡ Going
  pub used_up : (seen_of r granted).state.conflicts ≡ granted
  pub few : granted ≤ 1073741824

-- a mark, where there is one, is that of the log of a solver that refuted its formula
abbrev pub IsMarkOf : RunView → Option Stamp → Type 0
IsMarkOf r mark = IfSome mark (λ m. (r.state.standing ≡ Refuted) × Certifies m r.formula r.state.log)

-- a solver handled what was granted, and its mark is that of its log
pub record IsAhead (r : RunView) (granted : ℕ) (mark : Option Stamp) : Type 0 where
  pub handled : granted ≤ r.granted
  pub marked : IsMarkOf r mark
