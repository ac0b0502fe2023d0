use Rattle.std.proofs.Common.{arith}
use Rattle.cdcl_tables.proofs.published.Mirrors.{values_len, assigned}
use Rattle.cdcl_tables.proofs.trail.Trail.assignment.Goals as goal

pub of-requires : goal.of-requires
of-requires c =
    let t = c.self.inside in
    let long = values_len t.variables t.entries.items t.values t.starts.items c.self.invariant.0 in
    let size = c.truths.ensures.size in
    rw (c.as_slice.ensures.value, c.as_slice-2.ensures.value)
    (assigned t.variables t.entries.items t.values t.starts.items t.positions.items c.truths.result.now c.self.invariant.0 c.self.invariant.1 (omega (arith, size, long))
    (λ l h. c.truths.ensures.truths l (omega (arith, h, long))))
