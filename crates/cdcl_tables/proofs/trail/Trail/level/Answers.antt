use Rattle.std.proofs.Common.{arith, ap}
use Rattle.cdcl_defs.specs.State.{decision_count}
use Rattle.cdcl_tables.specs.Mirrored.{TrailView}
use Rattle.cdcl_tables.proofs.published.Mirrors.{starts_fit}
use Rattle.cdcl_tables.proofs.trail.Trail.level.Goals as goal

pub overflow_cast-result : goal.overflow_cast-result
overflow_cast-result c =
    let t = c.self.inside in
    let fit = starts_fit t.variables t.entries.items t.values t.starts.items c.self.invariant.0 in
    omega (arith, fit.1, c.len.ensures, t.starts.ok, c.self.invariant.0.small)

pub returns : goal.returns
returns c =
    let t = c.self.inside in
    let fit = starts_fit t.variables t.entries.items t.values t.starts.items c.self.invariant.0 in
    omega (arith, fit.0, c.len.ensures, t.starts.ok, ap (λ (w : TrailView). decision_count w.entries) c.self.view_is)
