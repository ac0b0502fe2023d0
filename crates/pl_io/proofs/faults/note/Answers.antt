use Rattle.std.proofs.Common.{rules}
use Rattle.pl_io.proofs.Counted.{FaultRose-noted}
use Rattle.pl_io.proofs.faults.note.Goals as goal

pub returns-in-Ok-clause-rose : goal.returns-in-Ok-clause-rose
returns-in-Ok-clause-rose c _ = FaultRose-noted c.args.failed.now c.write_down.new.failed c.args.name.now (search rules)
