use Rattle.std.proofs.Common.{◌∙◌, Err, ap, refl, inl, inr}
use Rattle.pl_io.specs.Tape.{Given}
use Rattle.proof_verdict.specs.Verdict.{tape_run}
use Rattle.judge_top.proofs.Deciding.{model_before}
use Rattle.judge_top.proofs.Handed.{weaker}
use Rattle.judge_top.proofs.decide.answer_opened.Goals as goal

pub returns-in-Ok-clause-cause : goal.returns-in-Ok-clause-cause
returns-in-Ok-clause-cause g c =
    weaker _ _
    (λ end h. inr (c.answer_open.ensures.opened ∙ ap (λ (given : Given). given.opened) c.in-Ok.ensures.given, model_before _ _ c.args.steps c.args.horizon _ (g.T.Tape.given c.args.tape.now) (tape_run (g.T.Tape.faults c.open.new.self) (g.T.Tape.faults c.answer_open.new.tape) (g.T.Tape.given c.open.new.self) (g.T.Tape.given c.answer_open.new.tape)) c.open.ensures.later end h))
    c.answer_open.result c.answer_open.ensures.ended

pub returns-in-Err-Failed-clause-cause : goal.returns-in-Err-Failed-clause-cause
returns-in-Err-Failed-clause-cause g c = inl (refl, c.in-Err-Failed.ensures.cause (ap Err c.in-Err-Failed.field-0-is))

pub answer_open-requires-clause-front : goal.answer_open-requires-clause-front
answer_open-requires-clause-front g c lifetimes within = record { none = ap (λ (given : Given). given.bytes) c.in-Ok.ensures.given; goes = ap (λ (given : Given). given.reading) c.in-Ok.ensures.given }
