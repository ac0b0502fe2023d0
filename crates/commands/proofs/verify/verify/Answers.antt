use Rattle.commands.proofs.Ties.{judges, too_many}
use Rattle.commands.proofs.verify.verify.Goals as goal

pub returns-clause-judged : goal.returns-clause-judged
returns-clause-judged g c =
    judges c.args.task.now c.in_ok-pairs.pairs c.in_ok-order.order c.in_ok-pairs.ensures.facts c.in_ok-pairs.ensures.greatest c.in_ok-order.ensures.published c.in_ok-form.form c.in_ok-form.ensures
    c.args.proof.now.horizon c.args.proof.now.log c.judge.result c.judge.ensures.judged c.judge.ensures.small c.judge.ensures.none

pub returns-clause-literals : goal.returns-clause-literals
returns-clause-literals g c count e =
    too_many c.args.task.now c.in_ok-pairs.pairs c.in_ok-order.order c.in_ok-pairs.ensures.facts c.in_ok-pairs.ensures.greatest c.in_ok-order.ensures.published c.in_ok-form.form c.in_ok-form.ensures
    c.args.proof.now.horizon count (c.judge.ensures.literals count e)
