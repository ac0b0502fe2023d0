use Rattle.std.proofs.lemmas.Result.{err_from_is_err_and}
use Rattle.pd_plan.specs.own.Answers.{fault_of}
use Rattle.pd_plan.specs.own.Reader.{state_of}
use Rattle.pd_plan.proofs.Steps.{fails_there, reached_next}
use Rattle.pd_plan.proofs.lists.read_lists.Goals as goal

pub returns-in_err-step : goal.returns-in_err-step
returns-in_err-step c =
    let p = err_from_is_err_and c.from_residual.result c.from_residual.ensures.1 in
    let fails = fails_there c.args.bytes.now c.loop-at.at (state_of c.loop-at.reader) c.loop-at.invariant (fault_of c.in_err-step.field-0.0) c.loop-at-test.true c.in_err-step.ensures in
    rw (p.1, p.2) fails

pub loop-at-preserved : goal.loop-at-preserved
loop-at-preserved c =
    reached_next c.args.bytes.now c.loop-at.at (state_of c.loop-at.reader) c.loop-at.invariant (state_of c.step.new.self) c.loop-at-test.true c.in_ok-step.ensures
