use Rattle.never_system.specs.Aiger.{bit_wire}
use Rattle.never_system.proofs.Texts.{numbered_more}
use Rattle.never_system.proofs.wires.push_bits.Goals as goal

pub loop-place-preserved : goal.loop-place-preserved
loop-place-preserved c = numbered_more (bit_wire c.args.number) c.loop-place.place c.args.list.now.items c.loop-place.list.items c.push_bit.new.list.items c.loop-place.invariant c.in_ok-push_bit.ensures
