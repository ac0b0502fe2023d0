use Rattle.never_system.specs.Blif.{bit}
use Rattle.never_system.proofs.Texts.{numbered_more}
use Rattle.never_system.proofs.acts.put_bits.Goals as goal

pub loop-place-preserved : goal.loop-place-preserved
loop-place-preserved c = numbered_more (bit c.args.number) c.loop-place.place c.args.text.now.items c.loop-place.text.items c.put_bit.new.text.items c.loop-place.invariant c.in_ok-put_bit.ensures
