use Rattle.std.proofs.Common.{refl}
use Rattle.pl_io.proofs.Grown.{whole-fits, first-fills}
use Rattle.pl_io.proofs.mem_shelf.MemShelfShelf.take.Goals as goal

pub returns-clause-appends : goal.returns-clause-appends
returns-clause-appends c = c.append_front.ensures.appends

pub returns-clause-whole_fits : goal.returns-clause-whole_fits
returns-clause-whole_fits c e = whole-fits c.args.most c.args.into.now.items c.append_front.new.into.items c.as_slice-2.result.now (c.append_front.ensures.whole e)

pub returns-clause-longer_fills : goal.returns-clause-longer_fills
returns-clause-longer_fills c e = first-fills c.args.most c.args.into.now.items c.append_front.new.into.items c.as_slice-2.result.now (c.append_front.ensures.longer e)

pub returns-clause-cause : goal.returns-clause-cause
returns-clause-cause c e = absurd (c.append_front.ensures.memory e)

pub returns-clause-rose : goal.returns-clause-rose
returns-clause-rose c e = absurd (c.append_front.ensures.memory e)

pub same-self : goal.same-self
same-self c = refl
