use Rattle.judge_top.proofs.Formulas.{formulas, too_many}
use Rattle.judge_top.proofs.formula.formula_in.Goals as goal

pub returns-clause-formula : goal.returns-clause-formula
returns-clause-formula g c =
    formulas g.P.Placing.places g.P.Placing.are_plan c.args.task.now c.in_ok-pairs.pairs c.in_ok-order.order c.in_ok-pairs.ensures.facts c.in_ok-pairs.ensures.greatest c.in_ok-order.ensures.published c.in_ok-form.form c.in_ok-form.ensures
    c.args.horizon c.formula_of.result c.formula_of.ensures.formula c.formula_of.ensures.refutes

pub returns-clause-stops : goal.returns-clause-stops
returns-clause-stops g c =
    too_many g.P.Placing.places g.P.Placing.are_plan c.args.task.now c.in_ok-pairs.pairs c.in_ok-order.order c.in_ok-pairs.ensures.facts c.in_ok-pairs.ensures.greatest c.in_ok-order.ensures.published c.in_ok-form.form c.in_ok-form.ensures
    c.args.horizon c.formula_of.result c.formula_of.ensures.stops
