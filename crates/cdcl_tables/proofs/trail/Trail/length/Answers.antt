use Rattle.std.proofs.Common.{arith, ap}
use Rattle.cdcl_tables.specs.Mirrored.{TrailView}
use Rattle.cdcl_tables.proofs.published.Mirrors.{entries_fit}
use Rattle.cdcl_tables.proofs.trail.Trail.length.Goals as goal

pub overflow_cast-result : goal.overflow_cast-result
overflow_cast-result c =
    let t = c.self.inside in
    let fit = entries_fit t.variables t.entries.items t.values t.starts.items c.self.invariant.0 in
    omega (arith, fit, c.len.ensures, t.entries.ok, c.self.invariant.0.small)

pub returns-clause-short : goal.returns-clause-short
returns-clause-short c =
    let t = c.self.inside in
    let fit = entries_fit t.variables t.entries.items t.values t.starts.items c.self.invariant.0 in
    omega (arith, fit, c.len.ensures, t.entries.ok, ap (λ (w : TrailView). w.variables) c.self.view_is)
