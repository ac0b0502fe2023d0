-- What the next event of a sound state gives: what is learned is a clause that is false, and the state after it is sound.
use Rattle.std.proofs.Common.{◌≡◌, ℕ, ◌<◌, List, [], length, replicate, All, Bool, true, false, refl, sym, ap, subst, Option, Some, None}
use Rattle.std.proofs.lemmas.List.{append-nil}
use Rattle.clause_base.specs.Formula.{Cnf, IsWithinVariables}
use Rattle.clause_base.specs.Clause.{IsClause, IsRising}
use Rattle.clause_base.specs.declared.log.Entry.{Entry}
use Rattle.cdcl_defs.specs.declared.standing.Standing.{Standing}
use Rattle.cdcl_defs.specs.declared.standing.Standing.TheVariants.{Going}
use Rattle.cdcl_defs.specs.declared.event.Event.{Event}
use Rattle.cdcl_defs.specs.declared.event.Event.TheVariants.{Conflict, Decide, Finish}
use Rattle.cdcl_defs.specs.declared.trail.Assigned.{Assigned}
use Rattle.cdcl_defs.specs.State.{State, clause_at, is_kept, is_on, values_of}
use Rattle.cdcl_defs.specs.Trail.{AllFalse}
use Rattle.cdcl_defs.specs.Pending.{open_ones, first_pending}
use Rattle.cdcl_defs.specs.Event.{asked, chosen_event}
use Rattle.cdcl_defs.specs.Learn.{learned, Learned}
use Rattle.cdcl_defs.specs.Open.{IsOpenEvent}
use Rattle.cdcl_defs.specs.Run.{start_of, apply, after_conflict, is_going}
use Rattle.cdcl_defs.proofs.published.Members.{at_clause}
use Rattle.cdcl_defs.proofs.published.Pending.{Asks, asks}
use Rattle.cdcl_defs.specs.Sound.{IsSound}
use Rattle.cdcl_defs.proofs.published.Lawful.{IsGood, good_clause}
use Rattle.cdcl_defs.proofs.published.Kept.{conflict_good, learnt, all_rising, sound_next, sound_undropped}
use Rattle.cdcl_defs.proofs.published.Fuel.{opens}
use Rattle.cdcl_defs.proofs.published.Start.{start_sound}
use Rattle.clause_base.specs.Derivation.{clause_kept}
use Rattle.conflict_analysis.specs.Clauses.{ClausesView}
use Rattle.conflict_analysis.specs.Analysis.{AnalysisView, IsReady}
use Rattle.propagation.specs.Pending.{PropagatorView}
use Rattle.cdcl_core.specs.own.Search.{IsKept, IsNextEvent, state_of}

-- two states with the same parts
pub state_same : (n m g h : ℕ) (cs ds : List (List ℕ)) (ks ls : List Bool) (t u : List Assigned) (j k : ℕ) (l i : List Entry) (x y : Standing) → n ≡ m → g ≡ h → cs ≡ ds → ks ≡ ls → t ≡ u → j ≡ k → l ≡ i → x ≡ y → (let s : State = record { variables = n; given = g; clauses = cs; kept = ks; trail = t; conflicts = j; log = l; standing = x } in s) ≡ (let r : State = record { variables = m; given = h; clauses = ds; kept = ls; trail = u; conflicts = k; log = i; standing = y } in r)
state_same n m g h cs ds ks ls t u j k l i x y a a' b b' c d e f = cc

-- the clauses of a formula before any event
abbrev pub given_clauses : Cnf → ClausesView
given_clauses f = record { formula = f; log = []; kept = replicate (length f.clauses) true }

pub start_is : (f : Cnf) → state_of (given_clauses f) [] Going ≡ start_of f
start_is f = ap (λ (cs : List (List ℕ)). let s : State = record { variables = f.variables; given = length f.clauses; clauses = cs; kept = replicate (length f.clauses) true; trail = []; conflicts = 0; log = []; standing = Going } in s) (append-nil f.clauses)

pub kept_start : (f : Cnf) (clauses : ClausesView) (propagator : PropagatorView) (analysis : AnalysisView) → clauses ≡ given_clauses f → propagator ≡ record { variables = f.variables; clauses = f.clauses; kept = replicate (length f.clauses) true; entries = [] } → IsReady f.variables analysis → All IsClause f.clauses → IsWithinVariables f → IsKept clauses propagator analysis Going false
kept_start f clauses propagator analysis l m e c b = rw (l, m) (record {
  over = refl;
  ready = λ h. e;
  going = λ h. let z : false ≡ true = h in cc;
  sound = subst (IsSound f) (sym (start_is f)) (start_sound f c b);
  mirrored = λ h g. ap (λ (cs : List (List ℕ)). let v : PropagatorView = record { variables = f.variables; clauses = cs; kept = replicate (length f.clauses) true; entries = [] } in v) (sym (append-nil f.clauses));
})

-- a conflict that comes next is in a clause that is kept and whose literals are all false
conflict_by : (s : State) (i : ℕ) (o : Option ℕ) (c : Option ℕ) → first_pending s ≡ o → Conflict i ≡ elim o as (λ _. Event) [ Some n ↦ asked n (open_ones (is_on s.trail) (clause_at s.clauses n)) | None ↦ chosen_event c ] → Asks s (Conflict i)
conflict_by s i (Some n) c a h = subst (Asks s) (sym h) (asks s n a)
conflict_by s i None None a h = let z : Conflict i ≡ Finish = h in cc
conflict_by s i None (Some l) a h = let z : Conflict i ≡ Decide l = h in cc

pub conflict_asks : (f : Cnf) (s : State) (i : ℕ) → IsNextEvent f s (Conflict i) → Asks s (Conflict i)
conflict_asks f s i n = conflict_by s i (first_pending s) (n.0 (values_of s.variables s.trail)) refl n.2

-- what a conflict's clause has
pub record IsConflict (s : State) (i : ℕ) : Type 0 where
  pub in_range : i < length s.clauses
  pub kept : is_kept s.kept i ≡ true
  pub rising : IsRising (clause_at s.clauses i)
  pub all_false : AllFalse s.trail (clause_at s.clauses i)

pub conflict_is : (f : Cnf) (s : State) (i : ℕ) → IsSound f s → IsNextEvent f s (Conflict i) → IsConflict s i
conflict_is f s i o n =
    let a = conflict_asks f s i n in
    record { in_range = a.0.in_range; kept = a.0.kept; rising = at_clause IsRising s.clauses i tt (all_rising f.variables s.clauses o.lawful); all_false = a.1 }

-- the learned clause is sorted, false and over the variables
pub learned_is_good : (f : Cnf) (s : State) (i : ℕ) → IsSound f s → IsNextEvent f s (Conflict i) → IsGood f.variables s.trail (learned s.clauses s.trail i).clause
learned_is_good f s i o n = let a = conflict_asks f s i n in conflict_good f s i o a.0 a.1

pub learned_is_clause : (f : Cnf) (s : State) (i : ℕ) → IsSound f s → IsNextEvent f s (Conflict i) → IsClause (learned s.clauses s.trail i).clause
learned_is_clause f s i o n = good_clause f.variables (clause_kept f.clauses s.log) s.trail (learned s.clauses s.trail i).clause o.trail (learned_is_good f s i o n)

pub learned_is_false : (f : Cnf) (s : State) (i : ℕ) → IsSound f s → IsNextEvent f s (Conflict i) → AllFalse s.trail (learned s.clauses s.trail i).clause
learned_is_false f s i o n = (learned_is_good f s i o n).refuted

pub undropped_sound : (f : Cnf) (s : State) (i : ℕ) → IsSound f s → IsNextEvent f s (Conflict i) → IsSound f (after_conflict s (learned s.clauses s.trail i) [])
undropped_sound f s i o n = let a = conflict_asks f s i n in sound_undropped f s i o (learnt f s i o a.0 a.1)

pub next_sound : (f : Cnf) (s : State) (e : Event) → IsSound f s → is_going s.standing ≡ true → IsNextEvent f s e → IsSound f (apply s e)
next_sound f s e o g n = subst (λ (x : Event). IsSound f (apply s x)) (sym n.2) (sound_next f n.0 s n.1 o g)

pub next_open : (f : Cnf) (s : State) (e : Event) → IsSound f s → IsNextEvent f s e → IsOpenEvent s e
next_open f s e o n = subst (IsOpenEvent s) (sym n.2) (opens f n.0 s n.1 o)

pub learned_same : (k l h j : List ℕ) → k ≡ l → h ≡ j → (let x : Learned = record { clause = k; hints = h } in x) ≡ (let y : Learned = record { clause = l; hints = j } in y)
learned_same k l h j e f = cc
