use Rattle.never_text.specs.Certificate.{lines_of}
use Rattle.never_text.proofs.Lines.{one_more}
use Rattle.never_text.proofs.line.next_line.Goals as goal

pub returns-in-Some-clause-first : goal.returns-in-Some-clause-first
returns-in-Some-clause-first c = (lines_of c.in-Some.more.now, one_more c.args.text.now c.in-Some.line.now c.in-Some.more.now c.in-Some.ensures.some.0 c.in-Some.ensures.some.1)
