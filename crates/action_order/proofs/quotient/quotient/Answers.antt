use Rattle.action_order.proofs.QuotientLaw.{is_quotient}
use Rattle.action_order.proofs.quotient.quotient.Goals as goal

pub returns : goal.returns
returns c = is_quotient c.args.targets.items c.args.numbers.now c.args.roots.now c.in_ok-rows.rows.items c.leave_own_out.new.rows.items c.requires.graph c.requires.classes c.in_ok-rows.ensures c.leave_own_out.ensures
