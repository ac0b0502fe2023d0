use Rattle.std.proofs.Common.{arith, ◌∙◌, ap, take, drop}
use Rattle.state_store.proofs.PackLaw.{pack_more}
use Rattle.state_store.proofs.pack.pack.Goals as goal

pub loop-done-preserved : goal.loop-done-preserved
loop-done-preserved c = record {
  row = pack_more c.args.width c.loop-done._done c.loop-done.row.items c.push_reserved.new.self.items c.loop-done.rest.now c.split_at.result.0.now c.split_at.result.1.now c.args.state.now c.number_of.result
      c.loop-done-test.true c.push_reserved.ensures.items c.number_of.ensures
      (c.split_at.ensures.front ∙ ap (λ n. take n c.loop-done.rest.now) c.min.ensures)
      (c.split_at.ensures.back ∙ ap (λ n. drop n c.loop-done.rest.now) c.min.ensures)
      c.loop-done.invariant.row;
  long = omega (arith, c.push_reserved.ensures.len, c.loop-done.invariant.long);
  room = omega (arith, c.push_reserved.ensures.capacity, c.loop-done.invariant.room);
}
