use Rattle.std.proofs.Common.{◌/◌, length, get_or}
use Rattle.grounder.proofs.Tupled.{pushed_at, push_more}
use Rattle.grounder.proofs.bindings.push_tuple.Goals as goal

pub bounds-objects-number : goal.bounds-objects-number
bounds-objects-number c =
    let inv = c.loop-domain.invariant in
    let at = pushed_at c.args.domains.now c.loop-domain.domain-index c.domain-item.result c.loop-domain.rest c.loop-domain.number c.loop-domain-test.true c.domain-item.is inv.0 inv.1 in
    rw (c.as_slice-objects.ensures, at.left) at.index

pub loop-domain-preserved : goal.loop-domain-preserved
loop-domain-preserved c =
    let inv = c.loop-domain.invariant in
    let at = pushed_at c.args.domains.now c.loop-domain.domain-index c.domain-item.result c.loop-domain.rest c.loop-domain.number c.loop-domain-test.true c.domain-item.is inv.0 inv.1 in
    rw c.as_slice-objects.ensures (
      at.left,
      rw at.left at.number,
      push_more c.args.domains.now c.loop-domain.domain-index c.domain-item.result c.loop-domain.rest c.loop-domain.number _ c.loop-domain.into.items c.push.new.self.items c.args.into.now.items _
          c.loop-domain-test.true c.domain-item.is inv.0 inv.1 inv.2 (λ j. get_or (c.as_slice-objects.ensures j) (c.loop-domain.number / (c.loop-domain.rest / length (c.as_slice-objects.ensures j))) 0) c.in_ok-push.ensures.items,
    )
