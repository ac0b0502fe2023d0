-- What a conflict leaves that was entered: its clause is in the log, the trail has gone back, and what is dropped has its entries.
use Rattle.std.proofs.Common.{arith, ◌≡◌, ◌==◌, ℕ, ◌+◌, List, [], ◌∷◌, ◌++◌, length, map, Bool, true, false, not, ◌&&◌, if◌then◌else◌, refl, sym, ap, ◌∙◌, subst, append_assoc}
use Rattle.std.proofs.lemmas.List.{length_push}
use Rattle.clause_base.specs.Formula.{Cnf}
use Rattle.clause_base.specs.Derivation.{clauses_of}
use Rattle.clause_base.specs.declared.log.Entry.{Entry}
use Rattle.clause_base.specs.declared.log.Entry.TheVariants.{Learn, Drop}
use Rattle.cdcl_defs.specs.declared.standing.Standing.{Standing}
use Rattle.cdcl_defs.specs.declared.standing.Standing.TheVariants.{Going, Found, Refuted}
use Rattle.cdcl_defs.specs.declared.trail.Assigned.{Assigned}
use Rattle.cdcl_defs.specs.State.{State}
use Rattle.cdcl_defs.specs.Learn.{Learned, backtracked}
use Rattle.cdcl_defs.specs.Reduce.{candidates, first_half, kept_without}
use Rattle.cdcl_defs.specs.Run.{after_conflict, with_learned, trail_after, dropped_after, is_restart, is_going}
use Rattle.cdcl_defs.specs.Sound.{IsSound}
use Rattle.conflict_analysis.specs.Analysis.{AnalysisView, IsReady}
use Rattle.conflict_analysis.specs.Clauses.{ClausesView, all_clauses}
use Rattle.conflict_analysis.proofs.published.Placed.{learned_learn, learned_drops}
use Rattle.propagation.specs.Pending.{PropagatorView}
use Rattle.cdcl_core.specs.own.Search.{SearchView, IsKept, state_of, watched, level_after}
use Rattle.cdcl_core.proofs.Keeps.{state_same}
use Rattle.cdcl_core.proofs.Watching.{search_of, watched_now}

-- the clauses with one learned, and with some dropped
abbrev pub entered_clauses : ClausesView → List ℕ → List ℕ → List ℕ → ClausesView
entered_clauses c k h ds = record c { log = c.log ++ Learn k h ∷ map (λ n. Drop n) ds; kept = kept_without (c.kept ++ true ∷ []) ds }

log_more : (log : List Entry) (k h ds : List ℕ) → clauses_of (log ++ Learn k h ∷ map (λ n. Drop n) ds) ≡ clauses_of log ++ k ∷ []
log_more log k h ds =
    ap clauses_of (sym (append_assoc log (Learn k h ∷ []) (map (λ n. Drop n) ds)))
    ∙ learned_drops (log ++ Learn k h ∷ []) ds
    ∙ learned_learn log k h

all_more : (c d : ClausesView) (k h ds : List ℕ) → d ≡ entered_clauses c k h ds → all_clauses d ≡ all_clauses c ++ k ∷ []
all_more c d k h ds e =
    ap all_clauses e
    ∙ ap (λ (cs : List (List ℕ)). c.formula.clauses ++ cs) (log_more c.log k h ds)
    ∙ sym (append_assoc c.formula.clauses (clauses_of c.log) (k ∷ []))

going_is : (x : Standing) → is_going x ≡ true → x ≡ Going
going_is Going g = refl
going_is Found g = cc
going_is Refuted g = cc

entered_state : (c d : ClausesView) (entries trail : List Assigned) (x : Standing) (k h ds : List ℕ) → d ≡ entered_clauses c k h ds → trail ≡ trail_after (state_of c entries x) k → is_going x ≡ true → (length k == 0) ≡ false
    → state_of d trail x ≡ after_conflict (state_of c entries x) (record { clause = k; hints = h }) ds
entered_state c d entries trail x k h ds e t g n =
    let formula : d.formula ≡ c.formula = ap (λ (v : ClausesView). v.formula) e in
    let log : d.log ≡ c.log ++ Learn k h ∷ map (λ n. Drop n) ds = ap (λ (v : ClausesView). v.log) e in
    let long : length (clauses_of d.log) ≡ length (clauses_of c.log ++ k ∷ []) = ap (λ (l : List Entry). length (clauses_of l)) log ∙ ap (λ (cs : List (List ℕ)). length cs) (log_more c.log k h ds) in
    let count : length (clauses_of d.log) ≡ length (clauses_of c.log) + 1 = omega (arith, long, length_push (clauses_of c.log) k) in
    state_same d.formula.variables c.formula.variables (length d.formula.clauses) (length c.formula.clauses) (all_clauses d) (all_clauses c ++ k ∷ []) d.kept (kept_without (c.kept ++ true ∷ []) ds) trail (trail_after (state_of c entries x) k)
    (length (clauses_of d.log)) (length (clauses_of c.log) + 1) d.log (c.log ++ Learn k h ∷ map (λ n. Drop n) ds) x (if length k == 0 then Refuted else Going)
    (ap (λ (f : Cnf). f.variables) formula) (ap (λ (f : Cnf). length f.clauses) formula) (all_more c d k h ds e) (ap (λ (v : ClausesView). v.kept) e) t count log
    (going_is x g ∙ sym (ap (λ (b : Bool). if b then Refuted else Going) n))

-- where the trail has gone back to
pub gone_back : (c : ClausesView) (entries : List Assigned) (x : Standing) (spoilt : Bool) (k : List ℕ) (level : ℕ) (v : SearchView) → search_of c entries x spoilt ≡ v → (length k == 0) ≡ false → level ≡ level_after v.state k → backtracked level entries ≡ trail_after v.state k
gone_back c entries x spoilt k level v is n e =
    ap (λ (l : ℕ). backtracked l entries) e
    ∙ ap (λ (w : SearchView). backtracked (level_after v.state k) w.state.trail) is
    ∙ sym (ap (λ (b : Bool). if b then v.state.trail else backtracked (level_after v.state k) v.state.trail) n)

-- nothing is dropped but at a restart
pub dropped_none : (s : State) (k : List ℕ) → is_restart s ≡ false → dropped_after s k ≡ []
dropped_none s k r = by (first_half (candidates s.given (s.clauses ++ k ∷ []) (s.kept ++ true ∷ []) (trail_after s k))) (not (length k == 0)) (is_restart s) r
  where
    by : (xs : List ℕ) (a b : Bool) → b ≡ false → (if a && b then xs else []) ≡ []
    by xs true true e = cc
    by xs true false e = refl
    by xs false b e = refl

dropped_some : (s : State) (k : List ℕ) → is_restart s ≡ true → (length k == 0) ≡ false → dropped_after s k ≡ first_half (candidates s.given (s.clauses ++ k ∷ []) (s.kept ++ true ∷ []) (trail_after s k))
dropped_some s k r n = by (first_half (candidates s.given (s.clauses ++ k ∷ []) (s.kept ++ true ∷ []) (trail_after s k))) (length k == 0) (is_restart s) n r
  where
    by : (xs : List ℕ) (a b : Bool) → a ≡ false → b ≡ true → (if not a && b then xs else []) ≡ xs
    by xs true b e f = cc
    by xs false true e f = refl
    by xs false false e f = cc

half_same : (g i : ℕ) (cs ds : List (List ℕ)) (ks ls : List Bool) (t u : List Assigned) → g ≡ i → cs ≡ ds → ks ≡ ls → t ≡ u → first_half (candidates g cs ks t) ≡ first_half (candidates i ds ls u)
half_same g i cs ds ks ls t u a b c d = cc

-- at a restart those are dropped that were found with the clause in
pub dropped_half : (c c' : ClausesView) (entries trail : List Assigned) (x : Standing) (spoilt : Bool) (k h : List ℕ) (v : SearchView) → search_of c entries x spoilt ≡ v → is_restart v.state ≡ true → (length k == 0) ≡ false
    → c' ≡ entered_clauses c k h [] → trail ≡ trail_after v.state k → dropped_after v.state k ≡ first_half (candidates (length c'.formula.clauses) (all_clauses c') c'.kept trail)
dropped_half c c' entries trail x spoilt k h v is r n e t =
    let s = state_of c entries x in
    let here = ap (λ (w : SearchView). dropped_after w.state k) (sym is) in
    let restart = ap (λ (w : SearchView). is_restart w.state) is ∙ r in
    let back = t ∙ sym (ap (λ (w : SearchView). trail_after w.state k) is) in
    here ∙ dropped_some s k restart n
    ∙ half_same s.given (length c'.formula.clauses) (s.clauses ++ k ∷ []) (all_clauses c') (s.kept ++ true ∷ []) c'.kept (trail_after s k) trail
    (sym (ap (λ (w : ClausesView). length w.formula.clauses) e)) (sym (all_more c c' k h [] e)) (sym (ap (λ (w : ClausesView). w.kept) e)) (sym back)

-- the clauses after the drops
pub dropped_clauses : (c c' d : ClausesView) (k h ds : List ℕ) → c' ≡ entered_clauses c k h [] → d ≡ record c' { log = c'.log ++ map (λ n. Drop n) ds; kept = kept_without c'.kept ds } → d ≡ entered_clauses c k h ds
dropped_clauses c c' d k h ds e f =
    f ∙ ap (λ (w : ClausesView). let r : ClausesView = record w { log = w.log ++ map (λ n. Drop n) ds; kept = kept_without w.kept ds } in r) e
    ∙ ap (λ (l : List Entry). let r : ClausesView = record c { log = l; kept = kept_without (c.kept ++ true ∷ []) ds } in r) (append_assoc c.log (Learn k h ∷ []) (map (λ n. Drop n) ds))

search_same : (f g : Cnf) (x y : State) (a b : Bool) → f ≡ g → x ≡ y → a ≡ b → (let v : SearchView = record { formula = f; state = x; spoilt = a } in v) ≡ (let w : SearchView = record { formula = g; state = y; spoilt = b } in w)
search_same f g x y a b d e h = cc

-- what a search keeps then, and how it is seen
pub entered : (c d : ClausesView) (p : PropagatorView) (a : AnalysisView) (entries trail : List Assigned) (x : Standing) (spoilt : Bool) (k h ds : List ℕ) (v : SearchView) → search_of c entries x spoilt ≡ v → v.spoilt ≡ false → is_going v.state.standing ≡ true
    → (length k == 0) ≡ false → d ≡ entered_clauses c k h ds → trail ≡ trail_after v.state k → dropped_after v.state k ≡ ds → p ≡ watched d trail → IsReady c.formula.variables a → IsSound v.formula (with_learned v.state (record { clause = k; hints = h }))
    → IsKept d p a x false × (search_of d p.entries x false ≡ record v { state = with_learned v.state (record { clause = k; hints = h }) })
entered c d p a entries trail x spoilt k h ds v is sane going n e t drops m ready sound =
    let s = state_of c entries x in
    let new : Learned = record { clause = k; hints = h } in
    let back = t ∙ sym (ap (λ (w : SearchView). trail_after w.state k) is) in
    let goes = ap (λ (w : SearchView). is_going w.state.standing) is ∙ going in
    let gone = ap (λ (w : SearchView). dropped_after w.state k) is ∙ drops in
    let state : state_of d p.entries x ≡ with_learned v.state new =
    ap (λ (ts : List Assigned). state_of d ts x) (ap (λ (w : PropagatorView). w.entries) m)
    ∙ entered_state c d entries trail x k h ds e back goes n
    ∙ ap (after_conflict s new) (sym gone)
    ∙ ap (λ (w : SearchView). with_learned w.state new) is in
    let formula : d.formula ≡ v.formula = ap (λ (w : ClausesView). w.formula) e ∙ ap (λ (w : SearchView). w.formula) is in (
      record {
        over = ap (λ (w : PropagatorView). w.variables) m;
        ready = λ z. subst (λ (f : Cnf). IsReady f.variables a) (sym (ap (λ (w : ClausesView). w.formula) e)) ready;
        going = λ z. let y : false ≡ true = z in cc;
        sound = subst (λ (f : Cnf). IsSound f (state_of d p.entries x)) (sym formula) (subst (IsSound v.formula) (sym state) sound);
        mirrored = λ z g. watched_now d p trail m;
      },
      search_same d.formula v.formula (state_of d p.entries x) (with_learned v.state new) false v.spoilt formula state (sym sane),
    )
