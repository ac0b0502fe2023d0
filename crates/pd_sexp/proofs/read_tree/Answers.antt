use Rattle.std.proofs.lemmas.Result.{err_from_is_err_and}
use Rattle.pd_sexp.specs.own.Reader.{state_of}
use Rattle.pd_sexp.proofs.Verdicts.{Reached-step}
use Rattle.pd_sexp.proofs.Judged.{Judged, from_step, from_end, read_of, syntax_of, deep_of}
use Rattle.pd_sexp.proofs.WordLaw.{words_of}
use Rattle.pd_sexp.proofs.read_tree.Goals as goal
use Rattle.pd_sexp.proofs.read_tree.Goals.{After-finish}

pub returns-in_err-step-clause-syntax : goal.returns-in_err-step-clause-syntax
returns-in_err-step-clause-syntax c at is =
    let p = err_from_is_err_and c.from_residual.result c.from_residual.ensures.1 in
    let judged = from_step c.args.bytes.now c.loop-at.at (state_of c.loop-at.reader) c.loop-at.invariant (state_of c.step.new.self) c.in_err-step.field-0.0 c.loop-at-test.true c.in_err-step.ensures in
    syntax_of c.args.bytes.now c.from_residual.result (rw (p.1, p.2) judged) at is

pub returns-in_err-step-clause-deep : goal.returns-in_err-step-clause-deep
returns-in_err-step-clause-deep c at is =
    let p = err_from_is_err_and c.from_residual.result c.from_residual.ensures.1 in
    let judged = from_step c.args.bytes.now c.loop-at.at (state_of c.loop-at.reader) c.loop-at.invariant (state_of c.step.new.self) c.in_err-step.field-0.0 c.loop-at-test.true c.in_err-step.ensures in
    deep_of c.args.bytes.now c.from_residual.result (rw (p.1, p.2) judged) at is

pub loop-at-preserved : goal.loop-at-preserved
loop-at-preserved c =
    let steps = c.in_ok-step.ensures in
    Reached-step c.args.bytes.now c.loop-at.at (state_of c.loop-at.reader) c.loop-at.invariant c.loop-at-test.true (state_of c.step.new.self) steps.0 steps.1

ended : (c : After-finish) → Judged c.args.bytes.now c.finish.result
ended c = from_end c.args.bytes.now c.loop-at.at (state_of c.loop-at.reader) c.loop-at.invariant c.finish.result c.loop-at-test.false c.finish.ensures

pub returns-clause-read : goal.returns-clause-read
returns-clause-read c = read_of c.args.bytes.now c.finish.result (ended c)

pub returns-clause-syntax : goal.returns-clause-syntax
returns-clause-syntax c at is = syntax_of c.args.bytes.now c.finish.result (ended c) at is

pub returns-clause-deep : goal.returns-clause-deep
returns-clause-deep c at is = deep_of c.args.bytes.now c.finish.result (ended c) at is

pub returns-clause-words : goal.returns-clause-words
returns-clause-words c = words_of c.args.bytes.now c.finish.result (read_of c.args.bytes.now c.finish.result (ended c))
