use Rattle.never_system.specs.Aiger.{symbol}
use Rattle.never_system.proofs.Texts.{numbered_more}
use Rattle.never_system.proofs.aiger.put_all_symbols.Goals as goal

pub loop-number-preserved : goal.loop-number-preserved
loop-number-preserved c = numbered_more (symbol c.args.letter c.args.named) c.loop-number.number c.args.text.now.items c.loop-number.text.items c.put_symbol.new.text.items c.loop-number.invariant c.in_ok-put_symbol.ensures
