use Rattle.std.proofs.Common.{refl}
use Rattle.proof_verdict.specs.Verdict.{tape_run}
use Rattle.search_top.specs.Refuted.{ProofJudged, ended_initial, initial}
use Rattle.search_top.proofs.Refuting.{made, of_forward, of_faulty, of_backward, of_weights}
use Rattle.search_top.proofs.refute.proof_in.Goals as goal

pub proof_judged-requires-clause-clauses : goal.proof_judged-requires-clause-clauses
proof_judged-requires-clause-clauses g c lifetimes within = rw (c.in-Forward.is, c.facts.ensures.facts) at c.in_ok-reading.ensures.usable

pub returns-in-Some-clause-ended : goal.returns-in-Some-clause-ended
returns-in-Some-clause-ended g c =
    let claim = ProofJudged (tape_run (g.T.Tape.faults c.args.tape.now) (g.T.Tape.faults c.args.tape.now) (g.T.Tape.given c.args.tape.now) (g.T.Tape.given c.args.tape.now)) c.args.proof.now c.args.task.now in
    of_forward claim _ c.false_at_first.result _ (rw (c.in-Forward.is, c.facts.ensures.facts) at c.in_ok-reading.ensures.exact)
    (made _ (ended_initial c.in-Some.number) c.false_at_first.result c.false_at_first.ensures.ended c.false_at_first.ensures.memory (initial c.in-Some.number (rw c.in-Some.is at c.first_false.ensures) refl))

pub returns-in-Forward-clause-ended : goal.returns-in-Forward-clause-ended
returns-in-Forward-clause-ended g c =
    of_forward (ProofJudged (tape_run (g.T.Tape.faults c.args.tape.now) (g.T.Tape.faults c.proof_judged.new.tape) (g.T.Tape.given c.args.tape.now) (g.T.Tape.given c.proof_judged.new.tape)) c.args.proof.now c.args.task.now) _ c.proof_judged.result _ (rw (c.in-Forward.is, c.facts.ensures.facts) at c.in_ok-reading.ensures.exact) c.proof_judged.ensures.ended

pub returns-in-Faulty-clause-ended : goal.returns-in-Faulty-clause-ended
returns-in-Faulty-clause-ended g c =
    of_faulty (ProofJudged (tape_run (g.T.Tape.faults c.args.tape.now) (g.T.Tape.faults c.args.tape.now) (g.T.Tape.given c.args.tape.now) (g.T.Tape.given c.args.tape.now)) c.args.proof.now c.args.task.now) _ c.faulty.result _ _ (rw (c.in-Faulty.is, c.facts.ensures.facts) at c.in_ok-reading.ensures.exact) c.faulty.ensures.ended c.faulty.ensures.memory

pub returns-in-Backward-clause-ended : goal.returns-in-Backward-clause-ended
returns-in-Backward-clause-ended g c =
    of_backward (ProofJudged (tape_run (g.T.Tape.faults c.args.tape.now) (g.T.Tape.faults c.args.tape.now) (g.T.Tape.given c.args.tape.now) (g.T.Tape.given c.args.tape.now)) c.args.proof.now c.args.task.now) _ c.other_kind.result _ (rw (c.in-Backward.is, c.facts.ensures.facts) at c.in_ok-reading.ensures.exact) c.other_kind.ensures.ended c.other_kind.ensures.memory

pub returns-clause-ended : goal.returns-clause-ended
returns-clause-ended g c =
    of_weights (ProofJudged (tape_run (g.T.Tape.faults c.args.tape.now) (g.T.Tape.faults c.args.tape.now) (g.T.Tape.given c.args.tape.now) (g.T.Tape.given c.args.tape.now)) c.args.proof.now c.args.task.now) _ c.other_kind-in-Weights.result _ (rw (c.in-Weights.is, c.facts.ensures.facts) at c.in_ok-reading.ensures.exact) c.other_kind-in-Weights.ensures.ended c.other_kind-in-Weights.ensures.memory
