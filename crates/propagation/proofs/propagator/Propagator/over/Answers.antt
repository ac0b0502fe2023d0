use Rattle.std.proofs.Common.{arith, ◌≡◌, ◌*◌, ◌≤◌, ◌+◌, ◌∙◌, ℕ, List, true, length, replicate, ap, sym, subst, refl}
use Rattle.cdcl_tables.specs.Assignment.{literals}
use Rattle.cdcl_tables.specs.Mirrored.{TrailView}
use Rattle.cdcl_tables.specs.Pairs.{IsIndex}
use Rattle.cdcl_tables.specs.Stored.{StoreView}
use Rattle.propagation.specs.declared.tables.Tables.{Tables}
use Rattle.propagation.specs.own.Given.{AreGiven}
use Rattle.propagation.specs.own.Steps.{AreStepped}
use Rattle.propagation.proofs.Givens.{fit_store, sound_given, paired_given, read_new, packed_new}
use Rattle.propagation.proofs.propagator.Propagator.over.Goals as goal

pub invariant_of-result : goal.invariant_of-result
invariant_of-result c =
    let v = c.variables-variables.result in
    let f = c.args.formula.now in
    let n = c.variables-variables.ensures.value in
    let whole = c.in_ok-store.store in
    let store = whole.clauses in
    let same = ap (λ (v : StoreView). v.clauses) c.in_ok-store.ensures in
    let s = c.in_ok-spare.spare in
    let g = s.given in
    let t : Tables = record { store = whole; kept = s.kept; slots = g.slots; steps = c.in_ok-steps.steps; kept_below = c.count-kept_below.result } in
    let few : length store ≤ 1073741824 = (let e = ap (λ (cs : List (List ℕ)). length cs) same in omega (arith, e, c.count-lawful.ensures.few, c.count-lawful.ensures.value)) in
    let fit = fit_store v f.variables store f.clauses n same c.variables-variables.ensures.small c.count-lawful.ensures.lawful c.variables-variables.ensures.below in
    let given = subst (λ (k : ℕ). AreGiven (2 * k) store (length store) g) (sym n) c.in_ok-spare.ensures.given in
    let kept = c.in_ok-spare.ensures.kept ∙ ap (λ (cs : List (List ℕ)). replicate (length cs) true) (sym same) in
    let quiet : length s.quiet.items ≡ v + 1 = omega (arith, c.in_ok-spare.ensures.quiet, n) in
    let small : v ≤ 2147483647 = omega (arith, c.variables-variables.ensures.small, n) in
    let steps = subst (λ (cs : List (List ℕ)). AreStepped cs g.slots.items c.in_ok-steps.steps) (sym same)
    (subst (λ (ss : List ℕ). AreStepped f.clauses ss c.in_ok-steps.steps) c.deref.ensures.value c.in_ok-steps.ensures) in
    let index = subst (λ (k : ℕ). IsIndex k store c.in_ok-pairs.pairs) (sym n)
    (subst (λ (cs : List (List ℕ)). IsIndex f.variables cs c.in_ok-pairs.pairs) (sym same) c.in_ok-pairs.ensures) in (
      sound_given v t g (literals c.args.trail.entries) s.quiet.items small few fit kept c.count-kept_below.ensures.value refl (ap (λ (w : TrailView). literals w.entries) c.requires) given quiet steps
          (read_new whole f.clauses c.in_ok-store.ensures) (packed_new whole f.clauses c.in_ok-store.ensures),
      paired_given v store g c.in_ok-pairs.pairs given index,
      ap (λ (w : TrailView). w.variables) c.requires ∙ sym n,
    )

pub fitted-requires-clause-read : goal.fitted-requires-clause-read
fitted-requires-clause-read c = read_new c.in_ok-store.store c.args.formula.now.clauses c.in_ok-store.ensures
