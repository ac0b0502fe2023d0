use Rattle.never_form.proofs.Forms.{formed, stopped}
use Rattle.never_form.proofs.formed.formula_of.Goals as goal

pub returns-clause-formula : goal.returns-clause-formula
returns-clause-formula g c =
    formed c.args.task.now c.args.clauses.now c.in_ok-pairs.pairs c.in_ok-order.order c.in_ok-pairs.ensures.greatest c.in_ok-order.ensures.published c.in_ok-form.form c.in_ok-form.ensures c.formula_in.result c.formula_in.ensures.formula

pub returns-clause-stops : goal.returns-clause-stops
returns-clause-stops g c =
    stopped c.args.task.now c.args.clauses.now c.in_ok-pairs.pairs c.in_ok-order.order c.in_ok-pairs.ensures.greatest c.in_ok-order.ensures.published c.in_ok-form.form c.in_ok-form.ensures c.formula_in.result c.formula_in.ensures.stops
