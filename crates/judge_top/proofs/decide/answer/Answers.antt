use Rattle.std.proofs.Common.{◌∙◌, ap, refl, inl, inr}
use Rattle.pl_io.specs.Tape.{Given}
use Rattle.proof_verdict.specs.Verdict.{tape_run}
use Rattle.judge_top.proofs.Deciding.{judged_before}
use Rattle.judge_top.proofs.Handed.{handed, weaker}
use Rattle.judge_top.proofs.decide.answer.Goals as goal

pub returns-in-Formula-clause-cause : goal.returns-in-Formula-clause-cause
returns-in-Formula-clause-cause g c = rw c.in-Formula.is (weaker _ _ (λ end h. (refl, h)) c.answer_formula.result c.answer_formula.ensures)

pub returns-in_err-open-in-Judge-clause-cause : goal.returns-in_err-open-in-Judge-clause-cause
returns-in_err-open-in-Judge-clause-cause g c =
    rw c.in-Judge.is (handed _ _ (λ end h. inl (end, h, refl)) c.in_err-open-in-Judge.field-0.0 c.from_residual.result c.from_residual.ensures.1 c.in_err-open-in-Judge.ensures.stops)

pub answer_open-requires-clause-front : goal.answer_open-requires-clause-front
answer_open-requires-clause-front g c lifetimes within = record { none = ap (λ (given : Given). given.bytes) c.in_ok-open-in-Judge.ensures.given; goes = ap (λ (given : Given). given.reading) c.in_ok-open-in-Judge.ensures.given }

pub returns-in_ok-open-in-Judge-clause-cause : goal.returns-in_ok-open-in-Judge-clause-cause
returns-in_ok-open-in-Judge-clause-cause g c =
    rw c.in-Judge.is (weaker _ _ (λ end h. inr (c.answer_open.ensures.opened ∙ ap (λ (given : Given). given.opened) c.in_ok-open-in-Judge.ensures.given, judged_before _ _ c.in-Judge.stepping c.in-Judge.horizon _ (g.T.Tape.given c.args.tape.now) (tape_run (g.T.Tape.faults c.open.new.tape) (g.T.Tape.faults c.answer_open.new.tape) (g.T.Tape.given c.open.new.tape) (g.T.Tape.given c.answer_open.new.tape)) c.open.ensures.later end h)) c.answer_open.result c.answer_open.ensures.ended)

pub returns-in-Model-clause-cause : goal.returns-in-Model-clause-cause
returns-in-Model-clause-cause g c = rw c.in-Model.is c.answer_opened.ensures.cause
