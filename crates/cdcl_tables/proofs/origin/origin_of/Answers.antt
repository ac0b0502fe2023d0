-- origin_of
use Rattle.std.proofs.Common.{arith}
use Rattle.cdcl_tables.proofs.Origins.{of_step, of_time}
use Rattle.cdcl_tables.proofs.origin.origin_of.Goals as goal

pub returns-then-code-shape : goal.returns-then-code-shape
returns-then-code-shape c = of_step c.args.shape.now c.args.code _ _ c.requires (omega arith) c.parts-of_step.ensures.quotient c.parts-of_step.ensures.rest

pub returns : goal.returns
returns c = of_time c.args.shape.now c.args.code _ _ c.requires (omega arith) (omega arith) c.parts-of_time.ensures.quotient c.parts-of_time.ensures.rest
