-- pack_all
use Rattle.std.proofs.Common.{◌≡◌, ◌<◌, ◌≤◌, ◌∙◌, ℕ, List, length, get_or, false, sym, ap, subst}
use Rattle.cdcl_defs.specs.State.{clause_at, is_kept}
use Rattle.conflict_analysis.specs.Clauses.{all_clauses}
use Rattle.propagation.specs.Pending.{PropagatorView}
use Rattle.cdcl_core.proofs.Packs.{all_at}
use Rattle.cdcl_core.proofs.reduce.pack_all.Goals as goal

pub literals-requires-clause-learned : goal.literals-requires-clause-learned
literals-requires-clause-learned c = (all_at (λ (n : ℕ). (length c.args.clauses.now.formula.clauses ≤ n) × (n < length (all_clauses c.args.clauses.now))) c.args.numbers.now c.loop-number.number-index c.requires.learned c.loop-number-test.true).0

pub literals-requires-clause-inside : goal.literals-requires-clause-inside
literals-requires-clause-inside c = (all_at (λ (n : ℕ). (length c.args.clauses.now.formula.clauses ≤ n) × (n < length (all_clauses c.args.clauses.now))) c.args.numbers.now c.loop-number.number-index c.requires.learned c.loop-number-test.true).1

pub pack-requires-clause-inside : goal.pack-requires-clause-inside
pack-requires-clause-inside c =
    let n = get_or c.args.numbers.now c.loop-number.number-index 0 in
    subst (λ (cs : List (List ℕ)). n < length cs) (sym (ap (λ (w : PropagatorView). w.clauses) c.loop-number.invariant ∙ c.requires.same))
    (all_at (λ (n : ℕ). (length c.args.clauses.now.formula.clauses ≤ n) × (n < length (all_clauses c.args.clauses.now))) c.args.numbers.now c.loop-number.number-index c.requires.learned c.loop-number-test.true).1

pub pack-requires-clause-gone : goal.pack-requires-clause-gone
pack-requires-clause-gone c =
    let n = get_or c.args.numbers.now c.loop-number.number-index 0 in
    ap (λ (w : PropagatorView). is_kept w.kept n) c.loop-number.invariant ∙ all_at (λ (n : ℕ). is_kept c.args.propagator.now.kept n ≡ false) c.args.numbers.now c.loop-number.number-index c.requires.gone c.loop-number-test.true

pub pack-requires-clause-same : goal.pack-requires-clause-same
pack-requires-clause-same c =
    let n = get_or c.args.numbers.now c.loop-number.number-index 0 in
    ap (λ (w : PropagatorView). clause_at w.clauses n) c.loop-number.invariant ∙ ap (λ (cs : List (List ℕ)). clause_at cs n) c.requires.same ∙ sym c.in-Ok.ensures
