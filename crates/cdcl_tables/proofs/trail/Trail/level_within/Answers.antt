use Rattle.std.proofs.Common.{arith, ℕ, List, length, take, sym, subst, ap, ◌∙◌}
use Rattle.cdcl_defs.specs.State.{decision_count}
use Rattle.cdcl_tables.specs.Mirrored.{TrailView, IsCount, AreRising}
use Rattle.cdcl_tables.proofs.published.Levels.{starts_rise, count_is}
use Rattle.cdcl_tables.proofs.published.Mirrors.{starts_fit}
use Rattle.cdcl_tables.proofs.trail.Trail.level_within.Goals as goal

pub count_below-requires-clause-rising : goal.count_below-requires-clause-rising
count_below-requires-clause-rising c =
    let t = c.self.inside in
    subst AreRising (sym (c.deref.ensures.value ∙ c.self.invariant.0.starts_are)) (starts_rise 0 t.entries.items)

pub count_below-requires-clause-few : goal.count_below-requires-clause-few
count_below-requires-clause-few c =
    let t = c.self.inside in
    let fit = starts_fit t.variables t.entries.items t.values t.starts.items c.self.invariant.0 in
    omega (arith, fit.1, c.self.invariant.0.small, ap (λ (xs : List ℕ). length xs) c.deref.ensures.value)

pub returns : goal.returns
returns c =
    let t = c.self.inside in
    count_is 0 c.args.length c.args.length c.count_below.result t.entries.items (omega arith)
    (subst (λ (xs : List ℕ). IsCount xs c.args.length c.count_below.result) (c.deref.ensures.value ∙ c.self.invariant.0.starts_are) c.count_below.ensures)
    ∙ ap (λ (w : TrailView). decision_count (take c.args.length w.entries)) c.self.view_is
