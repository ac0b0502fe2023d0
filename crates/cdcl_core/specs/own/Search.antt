use Rattle.std.specs.Prelude.{◌≡◌, ℕ, ◌<◌, List, [], ◌∷◌, ◌++◌, length, slice_set, if◌then◌else◌, Bool, true, false, Option, Some, None}
use Rattle.clause_base.specs.Formula.{Cnf}
use Rattle.clause_base.specs.Choice.{Known}
use Rattle.clause_base.specs.Derivation.{clauses_of}
use Rattle.clause_base.specs.declared.log.Entry.{Entry}
use Rattle.cdcl_defs.specs.declared.standing.Standing.{Standing}
use Rattle.cdcl_defs.specs.declared.standing.Standing.TheVariants.{Going}
use Rattle.cdcl_defs.specs.declared.event.Event.{Event}
use Rattle.cdcl_defs.specs.declared.trail.Assigned.{Assigned}
use Rattle.cdcl_defs.specs.State.{State, clause_at, is_kept, is_on}
use Rattle.cdcl_defs.specs.Pending.{open_ones, first_pending}
use Rattle.cdcl_defs.specs.Event.{asked, event_of}
use Rattle.cdcl_defs.specs.Learn.{backjump_level}
use Rattle.cdcl_defs.specs.Run.{is_restart, is_going, is_conflict}
use Rattle.cdcl_defs.specs.Open.{Opens}
use Rattle.cdcl_defs.specs.Sound.{IsSound}
use Rattle.conflict_analysis.specs.Clauses.{ClausesView, all_clauses}
use Rattle.conflict_analysis.specs.Analysis.{AnalysisView, IsReady}
use Rattle.propagation.specs.Pending.{PropagatorView}

-- a search for an assignment, as its clients see it
pub record SearchView : Type 0 where
  pub formula : Cnf
  pub state : State
  pub spoilt : Bool

-- a solver, as its clients see it
pub record SolverView (C : Type 0) : Type 0 where
  pub formula : Cnf
  pub state : State
  pub chooser : C
  pub spoilt : Bool

-- the state that these parts stand for: the conflicts are the clauses that were learned
abbrev pub state_of : ClausesView → List Assigned → Standing → State
state_of clauses trail standing = record {
  variables = clauses.formula.variables;
  given = length clauses.formula.clauses;
  clauses = all_clauses clauses;
  kept = clauses.kept;
  trail = trail;
  conflicts = length (clauses_of clauses.log);
  log = clauses.log;
  standing = standing;
}

-- these clauses as they are watched on a trail
abbrev pub watched : ClausesView → List Assigned → PropagatorView
watched clauses trail = record {
  variables = clauses.formula.variables;
  clauses = all_clauses clauses;
  kept = clauses.kept;
  entries = trail;
}

-- each of these clauses is kept when its turn comes to be dropped
abbrev pub AreKept : List Bool → List ℕ → Type 0
AreKept kept [] = Unit {0}
AreKept kept (n ∷ numbers) = (is_kept kept n ≡ true) × AreKept (slice_set kept n false) numbers

-- what a search keeps: a sound state, so that its log is a derivation whenever it stops; a trail over the formula's variables and what
-- it needs for a conflict unless it is spoilt, so that no conflict takes room for it; and as long as it is going its clauses are watched
-- on its trail, so that what the propagator asks for is the next event by the rules
pub record IsKept (clauses : ClausesView) (propagator : PropagatorView) (analysis : AnalysisView) (standing : Standing) (spoilt : Bool) : Type 0 where
  pub over : propagator.variables ≡ clauses.formula.variables
  pub ready : spoilt ≡ false → IsReady clauses.formula.variables analysis
  pub going : spoilt ≡ true → standing ≡ Going
  pub sound : IsSound clauses.formula (state_of clauses propagator.entries standing)
  pub mirrored : spoilt ≡ false → is_going standing ≡ true → propagator ≡ watched clauses propagator.entries

-- what the first clause asks for that is kept and pending
abbrev pub asked_first : State → Option Event
asked_first s =
    elim (first_pending s) [ Some number ↦ Some (asked number (open_ones (is_on s.trail) (clause_at s.clauses number))) | None ↦ None ]

-- a log goes on from another, all of which it begins with
abbrev pub GoesOn : List Entry → List Entry → Type 0
GoesOn old new = (rest : List Entry) × (new ≡ old ++ rest)

-- an event is the next one of a state, for some chooser whose choices are open
abbrev pub IsNextEvent : Cnf → State → Event → Type 0
IsNextEvent f s e = (choose : Known → Option ℕ) × (Opens f.variables choose) × (e ≡ event_of choose s)

-- an event may be applied to a search: it is the next one, and there is room to count its conflict
pub record MayApply (f : Cnf) (s : State) (spoilt : Bool) (e : Event) : Type 0 where
  pub sane : spoilt ≡ false
  pub going : is_going s.standing ≡ true
  pub sound : IsSound f s
  pub room : is_conflict e ≡ true → s.conflicts < 1073741824
  pub next : IsNextEvent f s e

-- the level to backtrack to after a conflict that teaches a clause
abbrev pub level_after : State → List ℕ → ℕ
level_after s clause = if is_restart s then 0 else backjump_level s.trail clause
