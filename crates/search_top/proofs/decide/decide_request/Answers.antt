use Rattle.plan_endings.proofs.published.Stopped.{handed, weaker}
use Rattle.plan_tasks.specs.Named as named
use Rattle.proof_verdict.specs.Verdict.{tape_run}
use Rattle.search_top.specs.Seen.{seen}
use Rattle.search_top.specs.declared.ended.Ended.TheVariants.{Plain}
use Rattle.search_top.proofs.Deciding.{stops_for, taken_for}
use Rattle.search_top.proofs.decide.decide_request.Goals as goal

pub returns-in_err-files-clause-cause : goal.returns-in_err-files-clause-cause
returns-in_err-files-clause-cause g c =
    handed Plain _ _ (stops_for (seen c.args.request.now) (named.names_of c.names.result) c.names.ensures _ _ (g.S.Shelf.failed c.args.shelf.now) (g.S.Shelf.failed c.take_all.new.shelf) (tape_run (g.T.Tape.faults c.args.tape.now) (g.T.Tape.faults c.args.tape.now) (g.T.Tape.given c.args.tape.now) (g.T.Tape.given c.args.tape.now)))
    c.in_err-files.field-0.0 c.from_residual.result c.from_residual.ensures.1 c.in_err-files.ensures.stops

pub returns-clause-cause : goal.returns-clause-cause
returns-clause-cause g c =
    weaker Plain _ _ (taken_for (seen c.args.request.now) (named.names_of c.names.result) c.names.ensures _ _ (g.S.Shelf.failed c.args.shelf.now) (g.S.Shelf.failed c.take_all.new.shelf) (tape_run (g.T.Tape.faults c.args.tape.now) (g.T.Tape.faults c.answer.new.tape) (g.T.Tape.given c.args.tape.now) (g.T.Tape.given c.answer.new.tape)) (named.bytes_of c.in_ok-files.files) c.in_ok-files.ensures.taken)
    c.answer.result c.answer.ensures.cause
