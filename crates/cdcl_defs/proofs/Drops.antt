-- What is dropped after a conflict may be dropped: the log stays a derivation, and no entry of the trail loses its reason.
use Rattle.std.proofs.Common.{arith, ◌≡◌, ◌==◌, ℕ, ◌-◌, ◌/◌, ◌<◌, ◌≤◌, List, [], ◌∷◌, ◌++◌, map, length, set, Bool, true, false, not, ◌&&◌, refl, sym, ap, ◌∙◌, subst, if◌then◌else◌, nat_lt, append_assoc}
use Rattle.std.specs.List.{range_with_len}
use Rattle.std.proofs.lemmas.List.{append-nil}
use Rattle.std.proofs.lemmas.Bool.Decides.{nat_tests}
use Rattle.clause_base.specs.Clause.{IsRising}
use Rattle.clause_base.proofs.published.ClauseLemmas.{rising-tail}
use Rattle.clause_base.specs.Formula.{Cnf}
use Rattle.clause_base.specs.declared.log.Entry.{Entry}
use Rattle.clause_base.specs.declared.log.Entry.TheVariants.{Drop}
use Rattle.clause_base.specs.Derivation.{clause_kept}
use Rattle.cdcl_defs.specs.declared.trail.Assigned.{Assigned}
use Rattle.cdcl_defs.specs.State.{State, clause_at, is_kept}
use Rattle.cdcl_defs.specs.Trail.{IsTrail}
use Rattle.cdcl_defs.specs.Reduce.{has_forced, is_candidate, candidates, first_half, kept_without}
use Rattle.cdcl_defs.specs.Run.{is_restart, trail_after, dropped_after}
use Rattle.cdcl_defs.proofs.published.Tests.{and_split, not_split, not_true, apart, test_same, set_flag}
use Rattle.cdcl_defs.proofs.published.Members.{is_in, is_in-filter, head_in, tail_in}
use Rattle.cdcl_defs.proofs.Chain.{above_head}
use Rattle.cdcl_defs.proofs.published.Trails.{trail_as}
use Rattle.cdcl_defs.specs.Sound.{IsLogged}
use Rattle.cdcl_defs.proofs.published.Logs.{logged_drop, names_drop}
use Rattle.cdcl_defs.proofs.published.Orders.{filter_rising, take_in, take_rising, range_in, range_rising}

-- the number of a clause that may be dropped: it is a learned one, kept, and forced no entry
pub record IsDroppable (from end : ℕ) (flags : List Bool) (entries : List Assigned) (n : ℕ) : Type 0 where
  pub low : from ≤ n
  pub high : n < end
  pub kept : is_kept flags n ≡ true
  pub idle : has_forced entries n ≡ false

-- a log with the clauses that it keeps, and entries that they forced
pub record Stands (f : Cnf) (clauses : List (List ℕ)) (kept : List Bool) (log : List Entry) (entries : List Assigned) : Type 0 where
  pub logged : IsLogged f clauses kept log
  pub trail : IsTrail (clause_kept f.clauses log) entries

apart_from : (m n : ℕ) → m < n → (m == n) ≡ false
apart_from m n h = grind (arith, nat_tests)

drop_one : (f : Cnf) (clauses : List (List ℕ)) (kept : List Bool) (log : List Entry) (entries : List Assigned) (m : ℕ) → IsDroppable (length f.clauses) (length clauses) kept entries m → Stands f clauses kept log entries → Stands f clauses (set kept m false) (log ++ Drop m ∷ []) entries
drop_one f clauses kept log entries m d s = record {
  logged = logged_drop f clauses kept log m s.logged d.low d.high d.kept;
  trail = trail_as (clause_kept f.clauses log) (clause_kept f.clauses (log ++ Drop m ∷ [])) entries (λ r k e n. names_drop f.clauses log m r k (other r e) n) s.trail;
}
  where
    other : (r : ℕ) → has_forced entries r ≡ true → (m == r) ≡ false
    other r e = not_true (m == r) (λ (t : (m == r) ≡ true). apart (has_forced entries r) e (ap (has_forced entries) (sym (test_same m r t)) ∙ d.idle))

later : (low high : ℕ) (kept : List Bool) (entries : List Assigned) (m : ℕ) (ns : List ℕ) → ((n : ℕ) → is_in (m ∷ ns) n ≡ true → IsDroppable low high kept entries n) → IsRising (m ∷ ns) → (n : ℕ) → is_in ns n ≡ true → IsDroppable low high (set kept m false) entries n
later low high kept entries m ns d r n e =
    let i = d n (tail_in m ns n e) in
    let f = apart_from m n (above_head m ns n r e) in
    record { low = i.low; high = i.high; kept = set_flag kept m n ∙ rw (i.kept, f) refl; idle = i.idle }

-- to drop clauses that may be dropped, in order
pub drop_each : (f : Cnf) (clauses : List (List ℕ)) (kept : List Bool) (log : List Entry) (entries : List Assigned) (ns : List ℕ) → IsRising ns → ((n : ℕ) → is_in ns n ≡ true → IsDroppable (length f.clauses) (length clauses) kept entries n) → Stands f clauses kept log entries → Stands f clauses (kept_without kept ns) (log ++ map Drop ns) entries
drop_each f clauses kept log entries [] r d s = subst (λ (l : List Entry). Stands f clauses kept l entries) (sym (append-nil log)) s
drop_each f clauses kept log entries (m ∷ ns) r d s =
    let one = drop_one f clauses kept log entries m (d m (head_in m ns)) s in
    let all = drop_each f clauses (set kept m false) (log ++ Drop m ∷ []) entries ns (rising-tail m ns r) (later (length f.clauses) (length clauses) kept entries m ns d r) one in
    subst (λ (l : List Entry). Stands f clauses (kept_without kept (m ∷ ns)) l entries) (append_assoc log (Drop m ∷ []) (map Drop ns)) all

-- a candidate may be dropped
candidate_is : (given : ℕ) (clauses : List (List ℕ)) (kept : List Bool) (trail : List Assigned) (n : ℕ) → is_in (candidates given clauses kept trail) n ≡ true → IsDroppable given (length clauses) kept trail n
candidate_is given clauses kept trail n e =
    let p = and_split (is_in (range_with_len given (length clauses - given)) n) (is_candidate clauses kept trail n) (sym (is_in-filter (is_candidate clauses kept trail) (range_with_len given (length clauses - given)) n) ∙ e) in
    let r = range_in given (length clauses - given) n p.0 in
    let c = and_split (is_kept kept n) (nat_lt 8 (length (clause_at clauses n)) && not (has_forced trail n)) p.1 in
    let i = and_split (nat_lt 8 (length (clause_at clauses n))) (not (has_forced trail n)) c.1 in
    record { low = r.0; high = omega (arith, r.0, r.1); kept = c.0; idle = not_split (has_forced trail n) i.1 }

-- what is dropped after a conflict
pub record AreDroppable (s : State) (clause : List ℕ) (ns : List ℕ) : Type 0 where
  pub rising : IsRising ns
  pub each : (n : ℕ) → is_in ns n ≡ true → IsDroppable s.given (length (s.clauses ++ clause ∷ [])) (s.kept ++ true ∷ []) (trail_after s clause) n

dropped_by : (s : State) (clause : List ℕ) (b : Bool) → AreDroppable s clause (if b then first_half (candidates s.given (s.clauses ++ clause ∷ []) (s.kept ++ true ∷ []) (trail_after s clause)) else [])
dropped_by s clause false = record { rising = tt; each = λ n e. let z : false ≡ true = e in cc }
dropped_by s clause true =
    let cs = s.clauses ++ clause ∷ [] in
    let flags = s.kept ++ true ∷ [] in
    let t = trail_after s clause in
    let all = candidates s.given cs flags t in
    record {
      rising = take_rising (length all / 2) all (filter_rising (is_candidate cs flags t) (range_with_len s.given (length cs - s.given)) (range_rising s.given (length cs - s.given)));
      each = λ n e. candidate_is s.given cs flags t n (take_in (length all / 2) all n e);
    }

pub none_droppable : (s : State) (clause : List ℕ) → AreDroppable s clause []
none_droppable s clause = dropped_by s clause false

pub dropped_are : (s : State) (clause : List ℕ) → AreDroppable s clause (dropped_after s clause)
dropped_are s clause = dropped_by s clause (not (length clause == 0) && is_restart s)
