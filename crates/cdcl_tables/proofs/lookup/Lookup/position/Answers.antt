use Rattle.std.proofs.Common.{arith, ◌≡◌, true, sym, subst}
use Rattle.clause_base.specs.Literal.{opposite}
use Rattle.cdcl_defs.specs.State.{is_on}
use Rattle.cdcl_tables.specs.Mirrored.{TrailView}
use Rattle.cdcl_tables.proofs.Lookups.{found_view}
use Rattle.cdcl_tables.proofs.published.Mirrors.{half_opposite, on_below}
use Rattle.cdcl_tables.proofs.lookup.Lookup.position.Goals as goal

pub bounds-self-inside-variable : goal.bounds-self-inside-variable
bounds-self-inside-variable c =
    let t = c.self.inside in
    let size = c.self.invariant.placed.size in
    let here = subst (λ (w : TrailView). is_on w.entries (opposite c.args.lit) ≡ true) (sym c.self.view_is) c.requires in
    let b = on_below t.variables t.entries.now c.self.invariant.below (opposite c.args.lit) here in
    omega (arith, b, size, half_opposite c.args.lit, c.variable.ensures.value)

pub returns-clause-within : goal.returns-clause-within
returns-clause-within c = (found_view _ _ c.args.lit _ _ _ _ c.self.invariant c.self.view_is c.requires c.variable.ensures.value).1

pub returns-clause-place : goal.returns-clause-place
returns-clause-place c = (found_view _ _ c.args.lit _ _ _ _ c.self.invariant c.self.view_is c.requires c.variable.ensures.value).2

pub returns-clause-level : goal.returns-clause-level
returns-clause-level c = (found_view _ _ c.args.lit _ _ _ _ c.self.invariant c.self.view_is c.requires c.variable.ensures.value).3

pub returns-clause-below : goal.returns-clause-below
returns-clause-below c = (found_view _ _ c.args.lit _ _ _ _ c.self.invariant c.self.view_is c.requires c.variable.ensures.value).0
