-- The run of a horizon: a solver over its formula, and where the conflicts that it is granted lead it.
use Rattle.std.specs.Prelude.{◌≡◌, ℕ, ◌+◌, ◌*◌, ◌≤◌, List, Bool, false, Option, length}
use Rattle.clause_base.specs.Choice.{Known}
use Rattle.clause_base.specs.Formula.{Cnf, IsModel}
use Rattle.clause_base.specs.Derivation.{clauses_of, IsRefutation}
use Rattle.cdcl_defs.specs.declared.standing.Standing.TheVariants.{Going, Found, Refuted}
use Rattle.cdcl_defs.specs.State.{State}
use Rattle.cdcl_defs.specs.Open.{Opens}
use Rattle.cdcl_defs.specs.Run.{start_of, after, is_going}
use Rattle.cdcl_defs.specs.Sound.{IsSound, truths_of as trail_truths}
use Rattle.goal_choice.specs.Means.{Means}
use Rattle.goal_choice.specs.Choice.{choice_by}
-- the choice by which the solver of a horizon decides: backwards from the goals
pub use Rattle.goal_choice.specs.Choice.{choice_of}

-- a run over a formula, as its clients see it: the formula, what its choice looks at, the solver's state, how many conflicts it was
-- granted, and whether it found no memory once
pub record RunView : Type 0 where
  pub formula : Cnf
  pub means : Means
  pub state : State
  pub granted : ℕ
  pub spoilt : Bool

-- the choice by which a run decides
abbrev pub choice_in : RunView → Known → Option ℕ
choice_in r = choice_by r.means

-- the state of a solver over a formula after k conflicts
abbrev pub reached : (Known → Option ℕ) → Cnf → ℕ → State
reached choose f k = after choose (start_of f) k

-- a run, as it is once it was granted k conflicts
abbrev pub moved_to : RunView → ℕ → RunView
moved_to r k = record r { state = reached (choice_in r) r.formula k; granted = k; spoilt = false }

-- a run that was granted nothing: it has done what comes before its first conflict
abbrev pub IsNew : RunView → Type 0
IsNew r = r ≡ moved_to r 0

-- a run is where the conflicts that it was granted lead from its start
abbrev pub IsMoved : RunView → Type 0
IsMoved r = r ≡ moved_to r r.granted

-- for each variable of a formula, whether a state has it as true
abbrev pub truths_of : Cnf → State → List Bool
truths_of f s = trail_truths f.variables s.trail

-- what is known of the state after k conflicts were granted: it has no more of them, and exactly so many where it is going; its
-- log has learned a clause for each, and has at most two entries for each; to grant as many as it has leads to it; where it is refuted its log refutes the formula,
-- and where it is found its values are a model
pub record IsReached (choose : Known → Option ℕ) (f : Cnf) (k : ℕ) : Type 0 where
  pub within : (reached choose f k).conflicts ≤ k
  pub used_up : (reached choose f k).standing ≡ Going → (reached choose f k).conflicts ≡ k
  pub adds : (j : ℕ) → (reached choose f (k + j)).conflicts ≤ (reached choose f k).conflicts + j
  pub rises : (j : ℕ) → (reached choose f k).conflicts ≤ (reached choose f (k + j)).conflicts
  pub again : reached choose f (reached choose f k).conflicts ≡ reached choose f k
  pub counted : (reached choose f k).conflicts ≡ length (clauses_of (reached choose f k).log)
  pub short_log : length (reached choose f k).log ≤ 2 * (reached choose f k).conflicts
  pub refuted : (reached choose f k).standing ≡ Refuted → IsRefutation f.variables f.clauses (reached choose f k).log
  pub found : (reached choose f k).standing ≡ Found → IsModel f (truths_of f (reached choose f k))

-- to go on by k from the state after j conflicts leads to the state after j + k
abbrev pub AddsUp : (Known → Option ℕ) → Cnf → Type 0
AddsUp choose f = (j k : ℕ) → after choose (reached choose f j) k ≡ reached choose f (j + k)

-- a settled state stays
abbrev pub Stays : (Known → Option ℕ) → Cnf → Type 0
Stays choose f = (k n : ℕ) → is_going (reached choose f k).standing ≡ false → reached choose f (k + n) ≡ reached choose f k

-- what every run keeps
pub record IsRun (choose : Known → Option ℕ) (f : Cnf) (s : State) (granted : ℕ) (spoilt : Bool) : Type 0 where
  pub opens : Opens f.variables choose
  pub start : IsSound f (start_of f)
  pub moved : spoilt ≡ false → s ≡ reached choose f granted
