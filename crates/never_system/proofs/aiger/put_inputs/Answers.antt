use Rattle.never_system.specs.Aiger.{input_line}
use Rattle.never_system.proofs.Texts.{numbered_more}
use Rattle.never_system.proofs.aiger.put_inputs.Goals as goal

pub loop-bit-preserved : goal.loop-bit-preserved
loop-bit-preserved c = numbered_more input_line c.loop-bit.bit c.args.text.now.items c.loop-bit.text.items c.put_input.new.text.items c.loop-bit.invariant c.in_ok-put_input.ensures
