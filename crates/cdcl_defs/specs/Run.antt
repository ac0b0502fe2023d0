use Rattle.std.specs.Prelude.{◌≡◌, ℕ, List, map, replicate, ◌+◌, ◌%◌, ◌*◌, ◌==◌, ◌&&◌, ◌||◌, [], ◌∷◌, ◌++◌, Bool, true, false, not, Option, Some, None, if◌then◌else◌, length, nat_le}
use Rattle.cdcl_defs.specs.declared.standing.Standing.{Standing}
use Rattle.cdcl_defs.specs.declared.standing.Standing.TheVariants.{Going, Found, Refuted}
use Rattle.clause_base.specs.Formula.{Cnf}
use Rattle.clause_base.specs.Choice.{Known}
use Rattle.clause_base.specs.declared.log.Entry.TheVariants.{Learn, Drop}
use Rattle.cdcl_defs.specs.declared.trail.Assigned.{Assigned}
use Rattle.cdcl_defs.specs.State.{State}
use Rattle.cdcl_defs.specs.declared.event.Event.{Event}
use Rattle.cdcl_defs.specs.declared.event.Event.TheVariants.{Conflict, Force, Decide, Finish}
use Rattle.cdcl_defs.specs.Event.{event_of}
use Rattle.cdcl_defs.specs.Learn.{Learned, learned, backtracked, backjump_level}
use Rattle.cdcl_defs.specs.Reduce.{candidates, first_half, kept_without}
use Rattle.cdcl_defs.specs.Machine.{turns, ComesToRest}

-- the state over a formula before any event: all its clauses are kept
abbrev pub start_of : Cnf → State
start_of f = record {
  variables = f.variables;
  given = length f.clauses;
  clauses = f.clauses;
  kept = replicate (length f.clauses) true;
  trail = [];
  conflicts = 0;
  log = [];
  standing = Going;
}

-- the next conflict brings a restart: it is a 64th one
abbrev pub is_restart : State → Bool
is_restart s = (s.conflicts + 1) % 64 == 0

-- the trail after a conflict that teaches a clause: it backtracks to the clause's level, at a restart to level 0; with the empty
-- clause it stays
abbrev pub trail_after : State → List ℕ → List Assigned
trail_after s clause =
    if length clause == 0 then s.trail else backtracked (if is_restart s then 0 else backjump_level s.trail clause) s.trail

-- the numbers of the clauses that are dropped after a conflict that teaches a clause: at a restart, unless the clause is empty,
-- the first half of the candidates
abbrev pub dropped_after : State → List ℕ → List ℕ
dropped_after s clause =
    if not (length clause == 0) && is_restart s
    then first_half (candidates s.given (s.clauses ++ clause ∷ []) (s.kept ++ true ∷ []) (trail_after s clause))
    else []

-- what a conflict leaves where these clauses are dropped: its clause is appended and kept, and its log entry is; it is counted;
-- with the empty clause all is refuted, else the trail goes back; what is dropped is no longer kept and has its log entries
abbrev pub after_conflict : State → Learned → List ℕ → State
after_conflict s new dropped = record s {
  clauses = s.clauses ++ new.clause ∷ [];
  kept = kept_without (s.kept ++ true ∷ []) dropped;
  trail = trail_after s new.clause;
  conflicts = s.conflicts + 1;
  log = s.log ++ Learn new.clause new.hints ∷ map Drop dropped;
  standing = if length new.clause == 0 then Refuted else Going;
}

-- what a conflict leaves that teaches a clause
abbrev pub with_learned : State → Learned → State
with_learned s new = after_conflict s new (dropped_after s new.clause)

-- what an event leaves
abbrev pub apply : State → Event → State
apply s (Conflict i) = with_learned s (learned s.clauses s.trail i)
apply s (Force l i) = record s { trail = s.trail ++ record { literal = l; reason = Some i } ∷ [] }
apply s (Decide l) = record s { trail = s.trail ++ record { literal = l; reason = None } ∷ [] }
apply s Finish = record s { standing = Found }

-- neither found nor refuted
abbrev pub is_going : Standing → Bool
is_going Going = true
is_going Found = false
is_going Refuted = false

-- an event is a conflict
abbrev pub is_conflict : Event → Bool
is_conflict (Conflict i) = true
is_conflict (Force l i) = false
is_conflict (Decide l) = false
is_conflict Finish = false

-- the state after the next event
abbrev pub next : (Known → Option ℕ) → State → State
next choose s = apply s (event_of choose s)

-- settled, or before a conflict that is past the limit of conflicts
abbrev pub rests : (Known → Option ℕ) → ℕ → State → Bool
rests choose limit s = not (is_going s.standing) || (is_conflict (event_of choose s) && nat_le limit s.conflicts)

-- y is where x comes to rest after k more conflicts
abbrev pub IsAfter : (Known → Option ℕ) → State → ℕ → State → Type 0
IsAfter choose x k y = ComesToRest (next choose) (rests choose) (x.conflicts + k) x y

-- the state after k more conflicts; between two of them come at most so many events as there are variables, so these turns suffice
unfoldable pub after : (Known → Option ℕ) → State → ℕ → State
after choose x k = turns (next choose) (rests choose) (x.conflicts + k) ((k + 1) * (x.variables + 2)) x

-- to go on by j conflicts and then by k is to go on by j + k
abbrev pub GoesOnAcrossCuts : Type 0
GoesOnAcrossCuts = (choose : Known → Option ℕ) (x y z : State) (j k : ℕ) → IsAfter choose x j y → IsAfter choose y k z → IsAfter choose x (j + k) z

-- there is one such state at most
abbrev pub IsAfterUnique : Type 0
IsAfterUnique = (choose : Known → Option ℕ) (x y z : State) (k : ℕ) → IsAfter choose x k y → IsAfter choose x k z → y ≡ z
