use Rattle.std.proofs.Common.{◌∷◌, [], List, ℕ, subst}
use Rattle.plan_endings.specs.declared.ending.File.TheVariants.{Proof}
use Rattle.plan_tasks.specs.Limits.{file_in}
use Rattle.plan_tasks.specs.Named.{third_bytes, bytes_of}
use Rattle.plan_tasks.specs.Files.{NotesAmong}
use Rattle.plan_tasks.proofs.published.Taking.{taken_short}
use Rattle.judge_top.specs.Seen.{seen}
use Rattle.proof_verdict.specs.Verdict.{tape_run}
use Rattle.judge_top.proofs.Deciding.{both_taken, stops_for, taken_for, two_named}
use Rattle.judge_top.proofs.Handed.{handed, weaker}
use Rattle.judge_top.proofs.decide.decide_request.Goals as goal

pub returns-in_err-files-clause-cause : goal.returns-in_err-files-clause-cause
returns-in_err-files-clause-cause g c =
    handed _ _ (stops_for (seen c.args.request.now) c.domain.result.now c.problem.result.now c.domain.ensures c.problem.ensures _ _ (g.S.Shelf.failed c.args.shelf.now) (g.S.Shelf.failed c.take_all.new.shelf) (tape_run (g.T.Tape.faults c.args.tape.now) (g.T.Tape.faults c.args.tape.now) (g.T.Tape.given c.args.tape.now) (g.T.Tape.given c.args.tape.now)))
    c.in_err-files.field-0.0 c.from_residual.result c.from_residual.ensures.1 c.in_err-files.ensures.stops

pub returns-in_err-files-clause-noted : goal.returns-in_err-files-clause-noted
returns-in_err-files-clause-noted g c =
    subst (λ (names : List (List ℕ)). NotesAmong names (g.S.Shelf.failed c.args.shelf.now) (g.S.Shelf.failed c.take_all.new.shelf))
    (two_named (seen c.args.request.now) c.domain.result.now c.problem.result.now c.domain.ensures c.problem.ensures) c.take_all.ensures.noted

pub returns-clause-noted : goal.returns-clause-noted
returns-clause-noted g c =
    subst (λ (names : List (List ℕ)). NotesAmong names (g.S.Shelf.failed c.args.shelf.now) (g.S.Shelf.failed c.take_all.new.shelf))
    (two_named (seen c.args.request.now) c.domain.result.now c.problem.result.now c.domain.ensures c.problem.ensures) c.take_all.ensures.noted

pub answer-requires-clause-domain_fits : goal.answer-requires-clause-domain_fits
answer-requires-clause-domain_fits g c lifetimes within =
    let taken = c.in_ok-files.ensures.taken in
    let short = taken_short (file_in Proof) 0 (c.domain.result.now ∷ c.problem.result.now ∷ []) taken.0 (bytes_of c.in_ok-files.files) taken.2 in
    rw c.as_slice-first.ensures short.0

pub answer-requires-clause-problem_fits : goal.answer-requires-clause-problem_fits
answer-requires-clause-problem_fits g c lifetimes within =
    let taken = c.in_ok-files.ensures.taken in
    let short = taken_short (file_in Proof) 0 (c.domain.result.now ∷ c.problem.result.now ∷ []) taken.0 (bytes_of c.in_ok-files.files) taken.2 in
    rw c.as_slice-second.ensures short.1.0

pub returns-clause-cause : goal.returns-clause-cause
returns-clause-cause g c =
    let taken = c.in_ok-files.ensures.taken in
    let d = c.domain.result.now in
    let p = c.problem.result.now in
    let files = c.in_ok-files.files in
    let is = both_taken (file_in Proof) d p _ _ taken.0 files.domain files.problem (third_bytes files.third) taken.1 taken.2 in
    weaker _ _
    (λ end h. taken_for (seen c.args.request.now) d p c.domain.ensures c.problem.ensures _ _ (g.S.Shelf.failed c.args.shelf.now) (g.S.Shelf.failed c.take_all.new.shelf) (tape_run (g.T.Tape.faults c.args.tape.now) (g.T.Tape.faults c.answer.new.tape) (g.T.Tape.given c.args.tape.now) (g.T.Tape.given c.answer.new.tape)) end files.domain files.problem is (rw (c.as_slice-first.ensures, c.as_slice-second.ensures) at h)) c.answer.result c.answer.ensures.cause
