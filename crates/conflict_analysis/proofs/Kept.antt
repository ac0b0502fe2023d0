-- Which clauses are kept after a log that learns one more, or drops some.
use Rattle.std.proofs.Common.{arith, ◌≡◌, ◌==◌, ℕ, ◌+◌, List, [], ◌∷◌, ◌++◌, map, length, set, Bool, true, false, not, ◌||◌, ◌&&◌, refl, sym, ap, ◌∙◌, replicate, length-append, length-set}
use Rattle.std.specs.List.{list_any, fold}
use Rattle.std.proofs.Math.Bool.{and-true, and_assoc}
use Rattle.std.proofs.lemmas.List.{length-replicate, length_push}
use Rattle.std.proofs.lemmas.List.Sums.{fold-append, fold_push}
use Rattle.std.proofs.lemmas.List.Folds.{fold-map}
use Rattle.clause_base.specs.Formula.{Cnf}
use Rattle.clause_base.specs.declared.log.Entry.{Entry}
use Rattle.clause_base.specs.declared.log.Entry.TheVariants.{Learn, Drop}
use Rattle.clause_base.specs.Derivation.{clauses_of}
use Rattle.cdcl_defs.specs.State.{is_kept}
use Rattle.cdcl_defs.specs.Reduce.{kept_without}
use Rattle.cdcl_defs.proofs.published.Tests.{set_flag}
use Rattle.conflict_analysis.specs.Clauses.{ClausesView, kept_after, kept_of}

-- the clauses by their formula and log
abbrev pub logged : Cnf → List Entry → ClausesView
logged f log = record { formula = f; log = log; kept = kept_of (length f.clauses) log }

pub kept_learn : (given : ℕ) (log : List Entry) (c h : List ℕ) → kept_of given (log ++ Learn c h ∷ []) ≡ kept_of given log ++ true ∷ []
kept_learn given log c h = fold_push kept_after (replicate given true) log (Learn c h)

pub kept_drops : (given : ℕ) (log : List Entry) (ns : List ℕ) → kept_of given (log ++ map (λ n. Drop n) ns) ≡ kept_without (kept_of given log) ns
kept_drops given log ns =
    fold-append kept_after (replicate given true) log (map (λ n. Drop n) ns) ∙ fold-map kept_after (λ n. Drop n) (kept_of given log) ns

-- what clients see once a clause is learned
pub learned_view : (f : Cnf) (log log' : List Entry) (c h : List ℕ) {w : ClausesView} → log' ≡ log ++ Learn c h ∷ [] → logged f log ≡ w → logged f log' ≡ record w { log = w.log ++ Learn c h ∷ []; kept = w.kept ++ true ∷ [] }
learned_view f log log' c h e g =
    ap (logged f) e
    ∙ ap (λ (ks : List Bool). let v : ClausesView = record { formula = f; log = log ++ Learn c h ∷ []; kept = ks } in v) (kept_learn (length f.clauses) log c h)
    ∙ ap (λ (w : ClausesView). let v : ClausesView = record w { log = w.log ++ Learn c h ∷ []; kept = w.kept ++ true ∷ [] } in v) g

-- what clients see once some are dropped
pub dropped_view : (f : Cnf) (log log' : List Entry) (ns : List ℕ) {w : ClausesView} → log' ≡ log ++ map (λ n. Drop n) ns → logged f log ≡ w → logged f log' ≡ record w { log = w.log ++ map (λ n. Drop n) ns; kept = kept_without w.kept ns }
dropped_view f log log' ns e g =
    ap (logged f) e
    ∙ ap (λ (ks : List Bool). let v : ClausesView = record { formula = f; log = log ++ map (λ n. Drop n) ns; kept = ks } in v) (kept_drops (length f.clauses) log ns)
    ∙ ap (λ (w : ClausesView). let v : ClausesView = record w { log = w.log ++ map (λ n. Drop n) ns; kept = kept_without w.kept ns } in v) g

-- each clause has a flag
length_after : (kept : List Bool) (log : List Entry) → length (fold kept_after kept log) ≡ length kept + length (clauses_of log)
length_after kept [] = omega arith
length_after kept (Learn c h ∷ log) = let r = length_after (kept ++ true ∷ []) log in omega (arith, r, length_push kept true)
length_after kept (Drop n ∷ log) = length_after (set kept n false) log ∙ ap (λ (m : ℕ). m + length (clauses_of log)) (length-set kept n false)

pub length_kept : (f : Cnf) (log : List Entry) → length (kept_of (length f.clauses) log) ≡ length (f.clauses ++ clauses_of log)
length_kept f log =
    length_after (replicate (length f.clauses) true) log
    ∙ ap (λ (m : ℕ). m + length (clauses_of log)) (length-replicate (length f.clauses) true)
    ∙ sym (length-append f.clauses (clauses_of log))

neither : (a b : Bool) → (not a && not b) ≡ not (a || b)
neither true b = refl
neither false b = refl

-- a clause is kept where it was and is not dropped
pub without : (kept : List Bool) (ns : List ℕ) (k : ℕ) → is_kept (kept_without kept ns) k ≡ (is_kept kept k && not (list_any (λ n. n == k) ns))
without kept [] k = sym (and-true (is_kept kept k))
without kept (n ∷ ns) k =
    without (set kept n false) ns k
    ∙ ap (λ (b : Bool). b && not (list_any (λ m. m == k) ns)) (set_flag kept n k)
    ∙ and_assoc (is_kept kept k) (not (n == k)) (not (list_any (λ m. m == k) ns))
    ∙ ap (λ (b : Bool). is_kept kept k && b) (neither (n == k) (list_any (λ m. m == k) ns))
