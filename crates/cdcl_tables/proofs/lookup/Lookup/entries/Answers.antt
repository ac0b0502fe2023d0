use Rattle.std.proofs.Common.{subst}
use Rattle.cdcl_tables.specs.Assignment.{literals}
use Rattle.cdcl_tables.specs.Mirrored.{TrailView, AreApart}
use Rattle.cdcl_tables.proofs.Lookups.{placed_apart}
use Rattle.cdcl_tables.proofs.lookup.Lookup.entries.Goals as goal

pub returns-clause-apart : goal.returns-clause-apart
returns-clause-apart c =
    let t = c.self.inside in
    subst (λ (w : TrailView). AreApart (literals w.entries)) c.self.view_is (placed_apart t.variables (literals t.entries.now) t.positions.now c.self.invariant.placed)
