use Rattle.std.proofs.Common.{arith, ◌≡◌, ◌<◌, ◌≤◌, ◌∙◌, ℕ, List, Bool, false, length, length-append, ap, sym, subst}
use Rattle.std.specs.List.{AllByRecursion}
use Rattle.clause_base.specs.Derivation.{clauses_of}
use Rattle.cdcl_defs.specs.State.{is_kept}
use Rattle.clause_base.specs.Clause.{IsRising}
use Rattle.conflict_analysis.specs.Clauses.{ClausesView, all_clauses}
use Rattle.propagation.specs.Pending.{PropagatorView}
use Rattle.cdcl_core.specs.own.Search.{AreKept, watched}
use Rattle.cdcl_core.proofs.Packs.{gone_all, half_learned}
use Rattle.cdcl_core.proofs.Watching.{half_is, half_kept, half_rises, watched_drops}
use Rattle.cdcl_core.proofs.reduce.reduce.Goals as goal
use Rattle.cdcl_core.proofs.reduce.reduce.Goals.{After-forget}

pub drop_all-requires : goal.drop_all-requires
drop_all-requires c =
    let v = c.args.clauses.now in
    let e = half_is v _ _ c.first_half-half.ensures c.as_slice.ensures.value c.in_ok-numbers.ensures c.trail.ensures in
    record { rising = subst IsRising (sym e) (half_rises (length v.formula.clauses) (all_clauses v) v.kept c.args.propagator.now.entries) }

pub forget-requires : goal.forget-requires
forget-requires c =
    let v = c.args.clauses.now in
    let e = half_is v _ _ c.first_half-half.ensures c.as_slice.ensures.value c.in_ok-numbers.ensures c.trail.ensures in
    let k = ap (λ (w : PropagatorView). w.kept) c.requires in
    subst (λ (ks : List Bool). AreKept ks c.first_half-half.result.now) (sym k)
    (subst (AreKept v.kept) (sym e) (half_kept (length v.formula.clauses) (all_clauses v) v.kept c.args.propagator.now.entries))

-- the clauses are watched as they are after the drops
dropped : (c : After-forget) → c.forget.new.propagator ≡ watched c.drop_all.new.self c.args.propagator.now.entries
dropped c =
    watched_drops c.args.clauses.now c.drop_all.new.self c.args.propagator.now.entries c.args.propagator.now c.forget.new.propagator c.first_half-half.result.now c.requires c.in_ok-drop_all.ensures.ok c.forget.ensures

pub pack_all-requires-clause-same : goal.pack_all-requires-clause-same
pack_all-requires-clause-same c = ap (λ (w : PropagatorView). w.clauses) (dropped (goal.at.pack_all-requires-clause-same c).After-forget)

pub pack_all-requires-clause-learned : goal.pack_all-requires-clause-learned
pack_all-requires-clause-learned c =
    let v = c.args.clauses.now in
    let here = (goal.at.pack_all-requires-clause-learned c).After-forget in
    let e = half_is v _ _ c.first_half-half.ensures c.as_slice.ensures.value c.in_ok-numbers.ensures c.trail.ensures in
    let all : all_clauses v ≡ all_clauses c.drop_all.new.self =
    sym (ap (λ (w : PropagatorView). w.clauses) c.forget.ensures ∙ ap (λ (w : PropagatorView). w.clauses) c.requires)
    ∙ ap (λ (w : PropagatorView). w.clauses) (dropped here) in
    let few : length v.formula.clauses ≤ length (all_clauses v) = omega (arith, length-append v.formula.clauses (clauses_of v.log)) in
    subst (λ (given : List (List ℕ)). AllByRecursion (λ n. (length given ≤ n) × (n < length (all_clauses c.drop_all.new.self))) c.first_half-half.result.now)
    (sym (ap (λ (w : ClausesView). w.formula.clauses) c.in_ok-drop_all.ensures.ok))
    (subst (λ (cs : List (List ℕ)). AllByRecursion (λ n. (length v.formula.clauses ≤ n) × (n < length cs)) c.first_half-half.result.now) all
    (subst (λ (ns : List ℕ). AllByRecursion (λ n. (length v.formula.clauses ≤ n) × (n < length (all_clauses v))) ns) (sym e)
    (half_learned (length v.formula.clauses) (all_clauses v) v.kept c.args.propagator.now.entries few)))

pub pack_all-requires-clause-gone : goal.pack_all-requires-clause-gone
pack_all-requires-clause-gone c =
    subst (λ (w : PropagatorView). AllByRecursion (λ n. is_kept w.kept n ≡ false) c.first_half-half.result.now) (sym c.forget.ensures)
    (gone_all c.first_half-half.result.now c.args.propagator.now.kept)

pub returns-clause-mirrored : goal.returns-clause-mirrored
returns-clause-mirrored c = c.pack_all.ensures ∙ dropped (goal.at.returns-clause-mirrored c).After-forget
