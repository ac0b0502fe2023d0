use Rattle.std.proofs.Common.{sym, subst}
use Rattle.cdcl_tables.specs.Mirrored.{TrailView, IsStart}
use Rattle.cdcl_tables.proofs.published.Mirrors.{entries_fit}
use Rattle.cdcl_tables.proofs.trail.Trail.lookup.Goals as goal

pub of-requires : goal.of-requires
of-requires c =
    let t = c.self.inside in
    let start = subst (λ (w : TrailView). IsStart w.entries c.start-start.result) (sym c.self.view_is) c.start-start.ensures in
    rw (c.as_slice.ensures.value, c.as_slice-2.ensures.value) (record {
      placed = c.self.invariant.1;
      start_is = start;
      below = c.self.invariant.0.below;
      short = entries_fit t.variables t.entries.items t.values t.starts.items c.self.invariant.0;
      small = c.self.invariant.0.small;
    })
