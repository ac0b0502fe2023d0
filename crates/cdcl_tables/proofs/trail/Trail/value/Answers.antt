use Rattle.std.proofs.Common.{arith, ◌≡◌, length, ◌∙◌, ap}
use Rattle.cdcl_defs.specs.State.{value_of}
use Rattle.cdcl_tables.specs.Mirrored.{TrailView}
use Rattle.cdcl_tables.proofs.published.Mirrors.{value_read, values_len}
use Rattle.cdcl_tables.proofs.trail.Trail.value.Goals as goal

pub returns-clause-value : goal.returns-clause-value
returns-clause-value c =
    let t = c.self.inside in
    value_read t.variables t.entries.items t.values t.starts.items c.args.v c.get.result c.self.invariant.0 c.get.ensures.value c.get.ensures.past
    ∙ ap (λ (w : TrailView). value_of w.entries c.args.v) c.self.view_is

pub returns-clause-past : goal.returns-clause-past
returns-clause-past c h =
    let t = c.self.inside in
    let n : length t.values ≡ t.variables = values_len t.variables t.entries.items t.values t.starts.items c.self.invariant.0 in
    let v = ap (λ (w : TrailView). w.variables) c.self.view_is in
    c.get.ensures.past (omega (arith, n, v, h))
