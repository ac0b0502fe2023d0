use Rattle.std.proofs.Common.{arith}
use Rattle.std.proofs.lemmas.Grind.{same_number_lists}
use Rattle.state_store.proofs.table.differing.Goals as goal

pub returns : goal.returns
returns c = same_number_lists c.args.row.now c.args.other.now c.requires.width (λ k lt. c.loop-place.invariant k (omega (arith, lt, c.loop-place-test.false)))
