use Rattle.std.proofs.Common.{◌≤◌, length, subst}
use Rattle.cdcl_tables.specs.Mirrored.{TrailView}
use Rattle.cdcl_tables.proofs.published.Mirrors.{entries_fit}
use Rattle.cdcl_tables.proofs.trail.Trail.entries.Goals as goal

pub returns-clause-short : goal.returns-clause-short
returns-clause-short c =
    let t = c.self.inside in
    subst (λ (w : TrailView). length w.entries ≤ w.variables) c.self.view_is (entries_fit t.variables t.entries.items t.values t.starts.items c.self.invariant.0)
