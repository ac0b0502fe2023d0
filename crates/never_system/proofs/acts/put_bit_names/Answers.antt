use Rattle.never_system.specs.Blif.{name}
use Rattle.never_system.proofs.Texts.{numbered_more}
use Rattle.never_system.proofs.acts.put_bit_names.Goals as goal

pub loop-bit-preserved : goal.loop-bit-preserved
loop-bit-preserved c = numbered_more (name 98) c.loop-bit.bit c.args.text.now.items c.loop-bit.text.items c.put_name.new.text.items c.loop-bit.invariant c.in_ok-put_name.ensures
