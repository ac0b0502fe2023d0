-- Clauses that are watched on a trail: their first pending clause is the state's, and they follow the trail and the drops.
use Rattle.std.proofs.Common.{arith, ◌≡◌, ◌≢◌, ℕ, zero, suc, ◌+◌, ◌-◌, ◌/◌, ◌≤◌, List, [], ◌∷◌, ◌++◌, length, take, set, map, Bool, true, false, not, ◌||◌, ◌&&◌, nat_le, nat_lt, if◌then◌else◌, refl, sym, ap, ◌∙◌, Option, Some, None, filter, append_assoc, get_or-set_other}
use Rattle.std.specs.List.{list_any, range_with_len}
use Rattle.clause_base.specs.Literal.{opposite}
use Rattle.clause_base.specs.Clause.{has_literal, IsRising}
use Rattle.clause_base.specs.Derivation.{clauses_of}
use Rattle.clause_base.specs.declared.log.Entry.TheVariants.{Learn, Drop}
use Rattle.cdcl_defs.specs.declared.trail.Assigned.{Assigned}
use Rattle.cdcl_defs.specs.declared.event.Event.{Event}
use Rattle.cdcl_defs.specs.State.{clause_at, is_kept, is_on}
use Rattle.cdcl_defs.specs.Pending.{open_ones, is_pending_in, least_from}
use Rattle.cdcl_defs.specs.Event.{asked}
use Rattle.cdcl_defs.specs.declared.standing.Standing.{Standing}
use Rattle.cdcl_defs.specs.Run.{is_going}
use Rattle.cdcl_defs.specs.Reduce.{has_forced, is_candidate, candidates, first_half, kept_without}
use Rattle.cdcl_defs.proofs.published.Tests.{and_split}
use Rattle.cdcl_defs.proofs.published.Orders.{filter_rising, take_rising, range_rising}
use Rattle.cdcl_tables.specs.Assignment.{literals}
use Rattle.cdcl_tables.specs.Mirrored.{TrailView}
use Rattle.cdcl_tables.proofs.published.Assignments.{has_is}
use Rattle.conflict_analysis.specs.Clauses.{ClausesView, all_clauses}
use Rattle.conflict_analysis.specs.Analysis.{AnalysisView}
use Rattle.conflict_analysis.proofs.published.Placed.{learned_learn, learned_drops}
use Rattle.propagation.specs.Front.{asked_at, first_asked}
use Rattle.propagation.specs.Pending.{PropagatorView}
use Rattle.cdcl_core.specs.own.Search.{SearchView, IsKept, watched, AreKept, asked_first, state_of}

-- what is told of literals by two tests that agree is the same
open_same : (on on' : ℕ → Bool) → ((l : ℕ) → on l ≡ on' l) → (c : List ℕ) → open_ones on c ≡ open_ones on' c
open_same on on' h [] = refl
open_same on on' h (l ∷ c) =
    ap (λ (b : Bool). if not b then l ∷ open_ones on c else open_ones on c) (h (opposite l))
    ∙ ap (λ (xs : List ℕ). if not (on' (opposite l)) then l ∷ xs else xs) (open_same on on' h c)

any_same : (on on' : ℕ → Bool) → ((l : ℕ) → on l ≡ on' l) → (c : List ℕ) → list_any on c ≡ list_any on' c
any_same on on' h [] = refl
any_same on on' h (l ∷ c) = ap (λ (b : Bool). b || list_any on c) (h l) ∙ ap (λ (b : Bool). on' l || b) (any_same on on' h c)

pending_same : (on on' : ℕ → Bool) → ((l : ℕ) → on l ≡ on' l) → (cs : List (List ℕ)) (ks : List Bool) (n : ℕ) → is_pending_in cs ks on n ≡ is_pending_in cs ks on' n
pending_same on on' h cs ks n =
    ap (λ (b : Bool). is_kept ks n && (not b && nat_le (length (open_ones on (clause_at cs n))) 1)) (any_same on on' h (clause_at cs n))
    ∙ ap (λ (os : List ℕ). is_kept ks n && (not (list_any on' (clause_at cs n)) && nat_le (length os) 1)) (open_same on on' h (clause_at cs n))

least_same : (p q : ℕ → Bool) (k n : ℕ) → ((j : ℕ) → p j ≡ q j) → least_from p k n ≡ least_from q k n
least_same p q k zero h = refl
least_same p q k (suc n) h =
    ap (λ (b : Bool). if b then Some k else least_from p (k + 1) n) (h k)
    ∙ ap (λ (o : Option ℕ). if q k then Some k else o) (least_same p q (k + 1) n h)

-- what the first pending clause asks for of those that are watched
event_same : (on on' : ℕ → Bool) → ((l : ℕ) → on l ≡ on' l) → (cs : List (List ℕ)) (o : Option ℕ) → elim o as (λ _. Option Event) [ Some n ↦ Some (asked_at cs on n) | None ↦ None ] ≡ elim o as (λ _. Option Event) [ Some n ↦ Some (asked n (open_ones on' (clause_at cs n))) | None ↦ None ]
event_same on on' h cs None = refl
event_same on on' h cs (Some n) = ap (λ (os : List ℕ). Some (asked n os)) (open_same on on' h (clause_at cs n))

first_same : (on on' : ℕ → Bool) → ((l : ℕ) → on l ≡ on' l) → (cs : List (List ℕ)) (ks : List Bool) → first_asked cs ks on ≡ elim (least_from (is_pending_in cs ks on') 0 (length cs)) as (λ _. Option Event) [ Some n ↦ Some (asked n (open_ones on' (clause_at cs n))) | None ↦ None ]
first_same on on' h cs ks =
    event_same on on' h cs (least_from (is_pending_in cs ks on) 0 (length cs))
    ∙ ap (λ (o : Option ℕ). elim o as (λ _. Option Event) [ Some n ↦ Some (asked n (open_ones on' (clause_at cs n))) | None ↦ None ])
    (least_same (is_pending_in cs ks on) (is_pending_in cs ks on') 0 (length cs) (pending_same on on' h cs ks))

pub first_watched : (clauses : ClausesView) (trail : List Assigned) (standing : Standing) (w : PropagatorView) (o : Option Event) → w ≡ watched clauses trail → o ≡ first_asked w.clauses w.kept (has_literal (literals w.entries)) → o ≡ asked_first (state_of clauses trail standing)
first_watched clauses trail standing w o m e =
    e ∙ ap (λ (v : PropagatorView). first_asked v.clauses v.kept (has_literal (literals v.entries))) m
    ∙ first_same (has_literal (literals trail)) (is_on trail) (has_is trail) (all_clauses clauses) clauses.kept

-- what a search watches, by its parts
views_same : (n m : ℕ) (cs ds : List (List ℕ)) (ks ls : List Bool) (t : List Assigned) → n ≡ m → cs ≡ ds → ks ≡ ls → (let v : PropagatorView = record { variables = n; clauses = cs; kept = ks; entries = t } in v) ≡ (let w : PropagatorView = record { variables = m; clauses = ds; kept = ls; entries = t } in w)
views_same n m cs ds ks ls t a b c = cc

-- once a clause is learned, the trail goes back and the clause is watched
pub watched_learned : (clauses clauses' : ClausesView) (trail trail' : List Assigned) (w w' w2 : PropagatorView) (k h : List ℕ) → w ≡ watched clauses trail → clauses' ≡ record clauses { log = clauses.log ++ Learn k h ∷ []; kept = clauses.kept ++ true ∷ [] } → w' ≡ record w { entries = trail' } → w2 ≡ record w' { clauses = w'.clauses ++ k ∷ []; kept = w'.kept ++ true ∷ [] } → w2 ≡ watched clauses' trail'
watched_learned clauses clauses' trail trail' w w' w2 k h m e t f =
    let g : w' ≡ watched clauses trail' = t ∙ ap (λ (v : PropagatorView). record v { entries = trail' }) m in
    let all : all_clauses clauses ++ k ∷ [] ≡ all_clauses clauses' =
    append_assoc clauses.formula.clauses (clauses_of clauses.log) (k ∷ [])
    ∙ ap (λ (xs : List (List ℕ)). clauses.formula.clauses ++ xs) (sym (learned_learn clauses.log k h))
    ∙ sym (ap all_clauses e) in
    f
    ∙ ap (λ (v : PropagatorView). let r : PropagatorView = record v { clauses = v.clauses ++ k ∷ []; kept = v.kept ++ true ∷ [] } in r) g
    ∙ views_same clauses.formula.variables clauses'.formula.variables (all_clauses clauses ++ k ∷ []) (all_clauses clauses') (clauses.kept ++ true ∷ []) clauses'.kept trail'
    (sym (ap (λ (c : ClausesView). c.formula.variables) e)) all (sym (ap (λ (c : ClausesView). c.kept) e))

-- a search by its parts
abbrev pub search_of : ClausesView → List Assigned → Standing → Bool → SearchView
search_of clauses trail standing spoilt = record { formula = clauses.formula; state = state_of clauses trail standing; spoilt = spoilt }

-- what a search watches that is going on, and not spoilt: all its clauses, on its trail
pub watched_going : {clauses : ClausesView} {w : PropagatorView} {r : AnalysisView} {standing : Standing} {spoilt : Bool} {v : SearchView} → IsKept clauses w r standing spoilt
    → search_of clauses w.entries standing spoilt ≡ v → v.spoilt ≡ false → is_going v.state.standing ≡ true → w ≡ watched clauses w.entries
watched_going kept is sane going = kept.mirrored (ap (λ (s : SearchView). s.spoilt) is ∙ sane) (ap (λ (s : SearchView). is_going s.state.standing) is ∙ going)

pub watched_all : {clauses : ClausesView} {w : PropagatorView} {r : AnalysisView} {standing : Standing} {spoilt : Bool} {v : SearchView} → IsKept clauses w r standing spoilt
    → search_of clauses w.entries standing spoilt ≡ v → v.spoilt ≡ false → is_going v.state.standing ≡ true → w.clauses ≡ all_clauses clauses
watched_all kept is sane going = ap (λ (w : PropagatorView). w.clauses) (watched_going kept is sane going)

pub watched_now : (clauses : ClausesView) (w : PropagatorView) (trail : List Assigned) → w ≡ watched clauses trail → w ≡ watched clauses w.entries
watched_now clauses w trail m = m ∙ ap (watched clauses) (sym (ap (λ (v : PropagatorView). v.entries) m))

-- clauses are dropped
pub watched_drops : (clauses clauses' : ClausesView) (trail : List Assigned) (w w' : PropagatorView) (ns : List ℕ) → w ≡ watched clauses trail → clauses' ≡ record clauses { log = clauses.log ++ map (λ n. Drop n) ns; kept = kept_without clauses.kept ns } → w' ≡ record w { kept = kept_without w.kept ns } → w' ≡ watched clauses' trail
watched_drops clauses clauses' trail w w' ns m e f =
    f ∙ ap (λ (v : PropagatorView). record v { kept = kept_without v.kept ns }) m
    ∙ ap (λ (cs : List (List ℕ)). let v : PropagatorView = record { variables = clauses.formula.variables; clauses = clauses.formula.clauses ++ cs; kept = kept_without clauses.kept ns; entries = trail } in v) (sym (learned_drops clauses.log ns))
    ∙ sym (ap (λ (c : ClausesView). watched c trail) e)

-- each clause that is dropped is kept when its turn comes
are_kept : (p : ℕ → Bool) (kept : List Bool) (k n h : ℕ) → ((j : ℕ) → k ≤ j → p j ≡ true → is_kept kept j ≡ true) → AreKept kept (take h (filter p (range_with_len k n)))
are_kept p kept k n zero here = tt
are_kept p kept k zero (suc h) here = tt
are_kept p kept k (suc n) (suc h) here = by (p k) refl (λ ks f. are_kept p ks (k + 1) n h f) (λ f. are_kept p kept (k + 1) n (suc h) f)
  where
    by : (b : Bool) → p k ≡ b → ((ks : List Bool) → ((j : ℕ) → k + 1 ≤ j → p j ≡ true → is_kept ks j ≡ true) → AreKept ks (take h (filter p (range_with_len (k + 1) n)))) → (((j : ℕ) → k + 1 ≤ j → p j ≡ true → is_kept kept j ≡ true) → AreKept kept (take (suc h) (filter p (range_with_len (k + 1) n)))) → AreKept kept (take (suc h) (if b then k ∷ filter p (range_with_len (k + 1) n) else filter p (range_with_len (k + 1) n)))
    by true e less same =
        (here k (omega arith) e, less (set kept k false) (λ j l f. (let ne : j ≢ k = omega (arith, l) in get_or-set_other kept k j false false ne ∙ here j (omega (arith, l)) f)))
    by false e less same = same (λ j l f. here j (omega (arith, l)) f)

pub half_kept : (given : ℕ) (clauses : List (List ℕ)) (kept : List Bool) (trail : List Assigned) → AreKept kept (first_half (candidates given clauses kept trail))
half_kept given clauses kept trail =
    are_kept (is_candidate clauses kept trail) kept given (length clauses - given) (length (candidates given clauses kept trail) / 2)
    (λ j l e. (and_split (is_kept kept j) (nat_lt 8 (length (clause_at clauses j)) && not (has_forced trail j)) e).0)

-- what is dropped rises
pub half_rises : (given : ℕ) (clauses : List (List ℕ)) (kept : List Bool) (trail : List Assigned) → IsRising (first_half (candidates given clauses kept trail))
half_rises given clauses kept trail =
    let learned = range_with_len given (length clauses - given) in
    let all = candidates given clauses kept trail in
    take_rising (length all / 2) all (filter_rising (is_candidate clauses kept trail) learned (range_rising given (length clauses - given)))

-- what is dropped, by the calls that work it out
pub half_is : (v : ClausesView) (t t' : TrailView) {half items numbers : List ℕ} → half ≡ first_half items → items ≡ numbers → numbers ≡ candidates (length v.formula.clauses) (all_clauses v) v.kept t.entries → t ≡ t' → half ≡ first_half (candidates (length v.formula.clauses) (all_clauses v) v.kept t'.entries)
half_is v t t' a b d e = a ∙ ap first_half (b ∙ d ∙ ap (λ (r : TrailView). candidates (length v.formula.clauses) (all_clauses v) v.kept r.entries) e)
