use Rattle.std.proofs.Common.{arith, ◌∙◌, ap, sym}
use Rattle.state_store.proofs.StoreLaw.{kept_none}
use Rattle.state_store.proofs.store.Store.new.Goals as goal

pub invariant_of-result : goal.invariant_of-result
invariant_of-result c =
    let most = ap (λ b. b.most) c.in_ok-rows.ensures in (
      kept_none c.args.facts c.args.most c.in_ok-rows.rows c.in_ok-with_capacity.field-0.items c.in_ok-with_capacity-2.field-0.items c.in_ok-table.table c.requires.facts (ap (λ b. b.width) c.in_ok-rows.ensures ∙ c.width_of.ensures)
          (omega (arith, most)) (omega (arith, most, c.ranges.most)) (ap (λ b. b.rows) c.in_ok-rows.ensures)
          c.in_ok-with_capacity.ensures.items c.in_ok-with_capacity-2.ensures.items (c.in_ok-table.ensures.most ∙ sym most) c.in_ok-table.ensures.trees,
      record {
        parents = omega (arith, most, c.in_ok-with_capacity.ensures.capacity);
        actions = omega (arith, most, c.in_ok-with_capacity-2.ensures.capacity);
      },
    )
