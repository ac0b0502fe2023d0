use Rattle.commands.proofs.Ties.{proves, too_many}
use Rattle.commands.proofs.prove.prove.Goals as goal

pub returns-clause-proved : goal.returns-clause-proved
returns-clause-proved g c =
    proves c.args.task.now c.in_ok-pairs.pairs c.in_ok-order.order c.in_ok-pairs.ensures.facts c.in_ok-pairs.ensures.greatest c.in_ok-order.ensures.published c.in_ok-form.form c.in_ok-form.ensures
    c.args.horizon c.args.budget c.run_on.result c.run_on.ensures.proved c.run_on.ensures.small c.run_on.ensures.certified c.run_on.ensures.spent c.run_on.ensures.found c.run_on.ensures.stays

pub returns-clause-literals : goal.returns-clause-literals
returns-clause-literals g c count e =
    too_many c.args.task.now c.in_ok-pairs.pairs c.in_ok-order.order c.in_ok-pairs.ensures.facts c.in_ok-pairs.ensures.greatest c.in_ok-order.ensures.published c.in_ok-form.form c.in_ok-form.ensures
    c.args.horizon count (c.run_on.ensures.literals count e)
