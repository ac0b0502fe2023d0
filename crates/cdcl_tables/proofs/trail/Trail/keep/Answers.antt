use Rattle.std.proofs.Common.{arith, ◌≡◌, take, sym, ap, ◌∙◌}
use Rattle.cdcl_defs.specs.State.{decision_count}
use Rattle.cdcl_tables.specs.Mirrored.{TrailView}
use Rattle.cdcl_tables.proofs.published.Mirrors.{given_by, kept_by, same_view}
use Rattle.cdcl_tables.proofs.trail.Trail.keep.Goals as goal

pub take_back-requires-clause-values : goal.take_back-requires-clause-values
take_back-requires-clause-values c =
    let t = c.self.inside in
    (given_by t.variables t.entries.items c.deref.result.now t.values t.starts.items c.self.invariant.0 c.deref.ensures.value).0

pub take_back-requires-clause-below : goal.take_back-requires-clause-below
take_back-requires-clause-below c =
    let t = c.self.inside in
    (given_by t.variables t.entries.items c.deref.result.now t.values t.starts.items c.self.invariant.0 c.deref.ensures.value).1

pub invariant_of-self : goal.invariant_of-self
invariant_of-self c =
    let t = c.self.inside in
    let here : c.args.level ≡ decision_count (take c.args.kept t.entries.items) = c.requires.level ∙ ap (λ (w : TrailView). decision_count (take c.args.kept w.entries)) (sym c.self.view_is) in
    let kept =
    kept_by t.variables c.args.kept c.args.level t.entries.items c.deref.result.now c.truncate.new.self.items t.values c.take_back.new.values t.starts.items c.truncate-2.new.self.items
    t.positions.items c.self.invariant.0 c.self.invariant.1 c.deref.ensures.value c.truncate.ensures.items c.take_back.ensures c.truncate-2.ensures.items here in
    (kept.0, kept.1, omega (arith, c.self.invariant.2, c.truncate.ensures.capacity), omega (arith, c.self.invariant.3, c.truncate-2.ensures.capacity))

pub returns : goal.returns
returns c =
    let t = c.self.inside in
    same_view t.variables c.args.self.now.variables c.truncate.new.self.items (take c.args.kept c.args.self.now.entries)
    (ap (λ (w : TrailView). w.variables) c.self.view_is) (c.truncate.ensures.items ∙ ap (λ (w : TrailView). take c.args.kept w.entries) c.self.view_is)
