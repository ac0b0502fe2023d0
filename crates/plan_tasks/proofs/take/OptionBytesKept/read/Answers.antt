use Rattle.std.proofs.Common.{arith}
use Rattle.plan_tasks.proofs.published.Taking.{ended_long}
use Rattle.plan_tasks.proofs.take.OptionBytesKept.read.Goals as goal

pub returns-in-Err-Ends-TooLong-clause-kept : goal.returns-in-Err-Ends-TooLong-clause-kept
returns-in-Err-Ends-TooLong-clause-kept g c =
    let ends = c.in-Err-Ends-TooLong.ensures.ends (g.S.Shelf.failed c.args.shelf.now) (λ name. omega arith) in
    ended_long (g.S.Shelf.failed c.args.shelf.now) (g.S.Shelf.failed c.read.new.shelf) (g.S.Shelf.heard c.args.shelf.now) (g.S.Shelf.heard c.read.new.shelf) c.args.file c.args.name.now _ _ _ c.in-Err-Ends-TooLong.field-0-is c.in-Err-Ends-TooLong.field-0-0-is ends
