use Rattle.std.proofs.Common.{arith}
use Rattle.pl_io.proofs.Grown.{Took-more, still-left}
use Rattle.pl_io.proofs.file_shelf.read_front.Goals as goal

pub loop-preserved : goal.loop-preserved
loop-preserved g c =
    let items = c.in_ok-extend_from_slice.ensures.items in (
      Took-more c.args.into.now.items c.loop.into.items c.extend_from_slice.new.self.items _ c.loop.invariant.0 items,
      still-left c.loop.into.items c.extend_from_slice.new.self.items c.read.new.buf c.loop.left c.min-kept.result _ items (omega (arith, c.in-Ok.ensures.bound)) (omega arith) c.loop.invariant.1,
    )

pub returns-then-kept-count-clause-appends : goal.returns-then-kept-count-clause-appends
returns-then-kept-count-clause-appends g c =
    Took-more c.args.into.now.items c.loop.into.items c.extend_from_slice.new.self.items _ c.loop.invariant.0 c.in_ok-extend_from_slice.ensures.items

pub returns-then-kept-count-clause-longer_fills : goal.returns-then-kept-count-clause-longer_fills
returns-then-kept-count-clause-longer_fills g c e =
    let all = still-left c.loop.into.items c.extend_from_slice.new.self.items c.read.new.buf c.loop.left c.min-kept.result _ c.in_ok-extend_from_slice.ensures.items (omega (arith, c.in-Ok.ensures.bound)) (omega arith) c.loop.invariant.1 in
    omega (arith, all)
