use Rattle.std.proofs.Common.{arith, ◌≡◌, ◌<◌, ◌+◌, ◌++◌, ◌∙◌, ℕ, List, Bool, false, not, filter, length, length-append, drop, get_or, sym, ap, subst}
use Rattle.std.proofs.lemmas.List.{drop_more, get_or_default}
use Rattle.cdcl_defs.specs.declared.trail.Assigned.{Assigned}
use Rattle.cdcl_defs.specs.Reduce.{has_forced, candidates}
use Rattle.clause_base.specs.Derivation.{clauses_of}
use Rattle.conflict_analysis.specs.Clauses.{ClausesView, all_clauses}
use Rattle.conflict_analysis.specs.Longs.{long_ones}
use Rattle.conflict_analysis.proofs.published.Longs.{long_below}
use Rattle.cdcl_core.proofs.Scans.{free_ones, taken_one, passed_one}
use Rattle.cdcl_core.proofs.reduce.candidates.Goals.{then-not-index+in_ok-push, else-not-index}
use Rattle.cdcl_core.proofs.reduce.candidates.Goals as goal

below : (v : ClausesView) (longs : List ℕ) (i : ℕ) → longs ≡ long_ones (length v.formula.clauses) (all_clauses v) v.kept → i < length longs → get_or longs i 0 < length (all_clauses v)
below v longs i e h =
    subst (λ (xs : List ℕ). i < length xs → get_or xs i 0 < length (all_clauses v)) (sym e)
    (long_below (length v.formula.clauses) (all_clauses v) v.kept i 0 (omega (arith, length-append v.formula.clauses (clauses_of v.log)))) h

pub index-requires : goal.index-requires
index-requires c =
    let k = below c.args.clauses.now c.longs-longs.result.now c.loop-number.number-index c.longs-longs.ensures c.loop-number-test.true in
    omega (arith, k, c.in_ok-forced.ensures.len, c.count-count.ensures.value)

pub loop-number-init : goal.loop-number-init
loop-number-init c =
    let none = c.new-numbers.ensures.items in
    let v = c.args.clauses.now in
    let trail = c.args.trail.now.entries in
    free_ones (length v.formula.clauses) (all_clauses v) v.kept trail
    ∙ ap (λ (xs : List ℕ). filter (λ n. not (has_forced trail n)) xs) (sym c.longs-longs.ensures)
    ∙ ap (λ (ns : List ℕ). ns ++ filter (λ n. not (has_forced trail n)) c.longs-longs.result.now) (sym none)

pub loop-number-preserved : goal.loop-number-preserved
loop-number-preserved c =
    let v = c.args.clauses.now in
    let all = all_clauses v in
    let trail = c.args.trail.now.entries in
    let p : ℕ → Bool = λ n. not (has_forced trail n) in
    let longs = c.longs-longs.result.now in
    let i = c.loop-number.number-index in
    let k = get_or longs i 0 in
    let flags = c.in_ok-forced.forced.items in
    let low = below v longs i c.longs-longs.ensures c.loop-number-test.true in
    let wide : k < length flags = omega (arith, low, c.in_ok-forced.ensures.len, c.count-count.ensures.value) in
    let flag : c.index.result.now ≡ has_forced trail k =
    c.index.ensures ∙ get_or_default flags k c.index.result.now false wide ∙ c.in_ok-forced.ensures.forced k (omega (arith, low, c.count-count.ensures.value)) ∙ ap (λ (es : List Assigned). has_forced es k) c.entries.ensures.value in
    let whole = candidates (length v.formula.clauses) all v.kept trail in
    let next = drop_more longs i 0 c.loop-number-test.true in
    let xs = c.loop-number.numbers.items in
    elim c.if-not-index.branch [
      | then-not-index+in_ok-push w ↦ taken_one p whole xs c.if-not-index.numbers.items (drop i longs) (drop (i + 1) longs) k c.loop-number.invariant next (ap not (sym flag) ∙ ap not w.if-not-index.true) (rw w.numbers-is w.in_ok-push.ensures.items)
      | else-not-index w ↦ passed_one p whole xs c.if-not-index.numbers.items (drop i longs) (drop (i + 1) longs) k c.loop-number.invariant next (ap not (sym flag) ∙ ap not w.if-not-index.false) (rw w.numbers-is)
    ]
