use Rattle.commands.specs.Tasks.{not_grounded}
use Rattle.plan_top.proofs.parts.part_with.Goals as goal

pub returns-in-Err-Ends-clause-part : goal.returns-in-Err-Ends-clause-part
returns-in-Err-Ends-clause-part g c bytes reads settings = rw c.in-Err-Ends.field-0-is (not_grounded (rw c.in-Err-Ends.field-0-is at (c.in-Err-Ends.ensures.stops bytes reads)))
