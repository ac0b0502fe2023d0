use Rattle.std.proofs.Common.{arith, ap, length, length-drop}
use Rattle.pl_io.proofs.Grown.{appended_front, range_rest}
use Rattle.pl_io.proofs.outside.put_all.Goals as goal

pub loop-done-preserved : goal.loop-done-preserved
loop-done-preserved g c =
    let text = c.args.text.now in
    let done = c.loop-done.done in
    let longer = appended_front (g.K.Sink.taken c.args.sink.now) text done c.in_ok-done.field-0 in
    let some = rw range_rest at c.in_ok-done.ensures.some in
    let taken = rw range_rest at c.in_ok-done.ensures.taken in (
      omega (arith, some, length-drop done text),
      cc (longer, taken, c.loop-done.invariant.1),
      omega (arith, c.in_ok-done.ensures.cause.later, c.loop-done.invariant.2),
      λ empty. absurd (omega (arith, ap length empty, c.loop-done-test.true)),
    )
