use Rattle.proof_verdict.specs.Verdict.{tape_run}
use Rattle.judge_top.proofs.Formulas.{told_known, too_many}
use Rattle.judge_top.proofs.model.told_in.Goals as goal

pub returns-clause-told : goal.returns-clause-told
returns-clause-told g c =
    told_known g.P.Placing.places g.P.Placing.are_plan c.args.task.now c.in_ok-pairs.pairs c.in_ok-order.order c.in_ok-pairs.ensures.facts c.in_ok-pairs.ensures.greatest c.in_ok-order.ensures.published c.in_ok-form.form c.in_ok-form.ensures
    c.args.horizon (tape_run (g.T.Tape.faults c.args.tape.now) (g.T.Tape.faults c.told_of.new.tape) (g.T.Tape.given c.args.tape.now) (g.T.Tape.given c.told_of.new.tape)) c.told_of.result c.told_of.ensures.told

pub returns-clause-members : goal.returns-clause-members
returns-clause-members g c = rw c.in_ok-form.ensures at c.told_of.ensures.members

pub returns-clause-stops : goal.returns-clause-stops
returns-clause-stops g c =
    too_many g.P.Placing.places g.P.Placing.are_plan c.args.task.now c.in_ok-pairs.pairs c.in_ok-order.order c.in_ok-pairs.ensures.facts c.in_ok-pairs.ensures.greatest c.in_ok-order.ensures.published c.in_ok-form.form c.in_ok-form.ensures
    c.args.horizon c.told_of.result c.told_of.ensures.stops
