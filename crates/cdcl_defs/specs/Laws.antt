use Rattle.std.specs.Prelude.{◌≡◌, ℕ, zero, suc, ◌+◌, ◌*◌, ◌≤◌, List, ◌∷◌, Option, All, Bool, true, false, fold, sum, length}
use Rattle.clause_base.specs.Formula.{Cnf, IsWithinVariables}
use Rattle.clause_base.specs.Clause.{IsClause}
use Rattle.clause_base.specs.Choice.{Known}
use Rattle.cdcl_defs.specs.declared.event.Event.{Event}
use Rattle.cdcl_defs.specs.declared.event.Event.TheVariants.{Conflict, Force, Decide, Finish}
use Rattle.cdcl_defs.specs.State.{State}
use Rattle.cdcl_defs.specs.Event.{event_of}
use Rattle.cdcl_defs.specs.Open.{Opens}
use Rattle.cdcl_defs.specs.Run.{start_of, next, after, is_going, IsAfter}
use Rattle.cdcl_defs.specs.Sound.{IsSound}

-- the state before any event is sound
abbrev pub StartIsSound : Type 0
StartIsSound = (f : Cnf) → All IsClause f.clauses → IsWithinVariables f → IsSound f (start_of f)

-- a sound state is sound after any number of conflicts
abbrev pub AfterIsSound : Type 0
AfterIsSound = (f : Cnf) (choose : Known → Option ℕ) (x : State) (k : ℕ) → Opens f.variables choose → IsSound f x → IsSound f (after choose x k)

-- where a sound state comes to rest after k more conflicts is the state after them
abbrev pub AfterIsOnly : Type 0
AfterIsOnly = (f : Cnf) (choose : Known → Option ℕ) (x y : State) (k : ℕ) → Opens f.variables choose → IsSound f x → IsAfter choose x k y → y ≡ after choose x k

-- to go on by each of some numbers in turn is to go on by their sum
abbrev pub AddsUp : (Known → Option ℕ) → State → Type 0
AddsUp choose x = (k : ℕ) (more : List ℕ) → fold (after choose) x (k ∷ more) ≡ after choose x (sum (k ∷ more))

-- from each sound state on, the numbers of conflicts add up
abbrev pub AfterAddsUp : Type 0
AfterAddsUp = (f : Cnf) (choose : Known → Option ℕ) (x : State) → Opens f.variables choose → IsSound f x → AddsUp choose x

-- a settled state stays as it is
abbrev pub SettledStays : (Known → Option ℕ) → State → Type 0
SettledStays choose x = is_going x.standing ≡ false → (k : ℕ) → after choose x k ≡ x

-- each settled state stays as it is
abbrev pub AfterSettled : Type 0
AfterSettled = (choose : Known → Option ℕ) (x : State) → SettledStays choose x

-- no more conflicts are handled than were asked for
abbrev pub AfterIsWithin : Type 0
AfterIsWithin = (choose : Known → Option ℕ) (x : State) (k : ℕ) → (after choose x k).conflicts ≤ x.conflicts + k

-- a run comes to rest
abbrev pub ComesToRestAlways : (Known → Option ℕ) → State → Type 0
ComesToRestAlways choose x = (k : ℕ) → IsAfter choose x k (after choose x k)

-- from each sound state on a run comes to rest
abbrev pub AfterRests : Type 0
AfterRests = (f : Cnf) (choose : Known → Option ℕ) (x : State) → Opens f.variables choose → IsSound f x → ComesToRestAlways choose x

-- to grant exactly so many conflicts as a run used of those granted leads to the same state
abbrev pub IsAgain : (Known → Option ℕ) → State → Type 0
IsAgain choose x = (j k : ℕ) → j ≤ k → x.conflicts + j ≡ (after choose x k).conflicts → after choose x j ≡ after choose x k

-- a run that is still going has used all that it was granted
abbrev pub IsUsedUp : (Known → Option ℕ) → State → Type 0
IsUsedUp choose x = (k : ℕ) → is_going (after choose x k).standing ≡ true → (after choose x k).conflicts ≡ x.conflicts + k

-- where more conflicts are granted, no fewer are handled
abbrev pub Rises : (Known → Option ℕ) → State → Type 0
Rises choose x = (j k : ℕ) → (after choose x j).conflicts ≤ (after choose x (j + k)).conflicts

-- what is granted and what is used, from each sound state on
pub record Grants (choose : Known → Option ℕ) (x : State) : Type 0 where
  pub again : IsAgain choose x
  pub used_up : IsUsedUp choose x
  pub rises : Rises choose x

-- from each sound state on
abbrev pub AfterGrants : Type 0
AfterGrants = (f : Cnf) (choose : Known → Option ℕ) (x : State) → Opens f.variables choose → IsSound f x → Grants choose x

-- an event that puts a literal on the trail
abbrev pub is_assignment : Event → Bool
is_assignment (Conflict i) = false
is_assignment (Force l i) = true
is_assignment (Decide l) = true
is_assignment Finish = false

-- the next n events are forced literals and decisions
abbrev pub IsQuiet : (Known → Option ℕ) → ℕ → State → Type 0
IsQuiet choose zero s = Unit {0}
IsQuiet choose (suc n) s = (is_assignment (event_of choose s) ≡ true) × IsQuiet choose n (next choose s)

-- so many events without a conflict are no more than the variables
abbrev pub QuietIsShort : Type 0
QuietIsShort = (f : Cnf) (choose : Known → Option ℕ) (x : State) (n : ℕ) → Opens f.variables choose → IsSound f x → is_going x.standing ≡ true → IsQuiet choose n x → n ≤ f.variables

-- a log has at most two entries for each conflict, since a learned clause is dropped at most once
abbrev pub LogIsShort : Type 0
LogIsShort = (f : Cnf) (s : State) → IsSound f s → length s.log ≤ 2 * s.conflicts
