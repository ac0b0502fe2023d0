use Rattle.std.proofs.Common.{arith, ◌∙◌}
use Rattle.cdcl_tables.proofs.published.Mirrors.{mirrored_new, placed_new}
use Rattle.cdcl_tables.proofs.trail.Trail.over.Goals as goal

pub invariant_of-result : goal.invariant_of-result
invariant_of-result c =
    let n = c.args.variables in
    let items = c.reserve.new.self.items in
    let none = c.in_ok-reserve.ensures.items ∙ c.clear.ensures.items in (
      mirrored_new n items c.in_ok-values.values c.reserve-2.new.self.items c.requires none c.in_ok-values.ensures (c.in_ok-reserve-2.ensures.items ∙ c.clear-2.ensures.items),
      placed_new n items c.resize.new.self.items none (omega (arith, c.in_ok-resize.ensures.len, c.resize.new.self.ok)),
      omega (arith, c.in_ok-reserve.ensures.ok),
      omega (arith, c.in_ok-reserve-2.ensures.ok),
    )
