use Rattle.std.proofs.Common.{arith, ◌≡◌, true, length, sym, ap, subst}
use Rattle.clause_base.specs.Literal.{opposite}
use Rattle.cdcl_defs.specs.State.{is_on}
use Rattle.cdcl_tables.specs.Mirrored.{TrailView}
use Rattle.cdcl_tables.proofs.published.Mirrors.{false_below, entries_fit, level_view}
use Rattle.cdcl_tables.proofs.trail.Trail.length_with.Goals as goal

pub index-requires : goal.index-requires
index-requires c =
    let t = c.self.inside in
    let size = c.self.invariant.1.size in
    let here = subst (λ (w : TrailView). is_on w.entries (opposite c.args.lit) ≡ true) (sym c.self.view_is) c.requires in
    let b = false_below t.variables t.entries.items t.values t.starts.items c.args.lit c.self.invariant.0 here in
    omega (arith, b, size, c.variable.ensures.value, t.positions.ok)

pub overflow_add-result : goal.overflow_add-result
overflow_add-result c =
    let t = c.self.inside in
    let fit = entries_fit t.variables t.entries.items t.values t.starts.items c.self.invariant.0 in
    let at =
    (level_view t.variables c.index.result.now c.variable.result c.args.lit t.entries.items t.values t.starts.items t.positions.items c.args.self.now c.self.invariant.0 c.self.invariant.1
    c.self.view_is c.requires c.variable.ensures.value c.index.ensures).1 in
    omega (arith, at, fit, c.self.invariant.0.small)

pub returns-clause-level : goal.returns-clause-level
returns-clause-level c =
    let t = c.self.inside in
    (level_view t.variables c.index.result.now c.variable.result c.args.lit t.entries.items t.values t.starts.items t.positions.items c.args.self.now c.self.invariant.0 c.self.invariant.1
    c.self.view_is c.requires c.variable.ensures.value c.index.ensures).2

pub returns-clause-within : goal.returns-clause-within
returns-clause-within c =
    let t = c.self.inside in
    let at =
    (level_view t.variables c.index.result.now c.variable.result c.args.lit t.entries.items t.values t.starts.items t.positions.items c.args.self.now c.self.invariant.0 c.self.invariant.1
    c.self.view_is c.requires c.variable.ensures.value c.index.ensures).1 in
    omega (arith, at, ap (λ (w : TrailView). length w.entries) c.self.view_is)

pub returns-clause-below : goal.returns-clause-below
returns-clause-below c =
    let t = c.self.inside in
    let here = subst (λ (w : TrailView). is_on w.entries (opposite c.args.lit) ≡ true) (sym c.self.view_is) c.requires in
    let b = false_below t.variables t.entries.items t.values t.starts.items c.args.lit c.self.invariant.0 here in
    omega (arith, b, ap (λ (w : TrailView). w.variables) c.self.view_is)

pub returns-clause-small : goal.returns-clause-small
returns-clause-small c = omega (arith, c.self.invariant.0.small, ap (λ (w : TrailView). w.variables) c.self.view_is)
