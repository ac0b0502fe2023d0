use Rattle.std.proofs.Common.{◌≡◌, ◌∙◌, ℕ, take, ap, rules}
use Rattle.pl_io.specs.Tape.{given_more}
use Rattle.sat_text.specs.Values.{refused_by}
use Rattle.proof_verdict.specs.Verdict.{tape_run}
use Rattle.judge_top.proofs.Given.{read_early}
use Rattle.judge_top.proofs.model.read_given.Goals as goal

pub returns-in-Ok-eq0-clause-given : goal.returns-in-Ok-eq0-clause-given
returns-in-Ok-eq0-clause-given g c =
    let zero : c.in-Ok-eq0.field-0 ≡ 0 = search rules in
    let end = c.in-Ok-eq0.ensures.given ∙ ap (λ (k : ℕ). given_more (g.T.Tape.given c.reading.tape) (take k c.take.new.into)) zero in
    c.finished.ensures c.args.variables (g.T.Tape.given c.reading.tape) (tape_run (g.T.Tape.faults c.args.tape.now) (g.T.Tape.faults c.take.new.self) (g.T.Tape.given c.args.tape.now) (g.T.Tape.given c.take.new.self)) c.reading.invariant.read c.reading.invariant.goes end

-- the count is not 0, since that is a case of its own
pub returns-in-Some-clause-given : goal.returns-in-Some-clause-given
returns-in-Some-clause-given g c =
    let piece = take c.in-Ok.count c.take.new.into in
    let told = rw c.in-Some.is at (c.in_ok-refused-in-Ok.ensures.refused c.args.variables (g.T.Tape.given c.reading.tape).bytes c.reading.invariant.read) in
    read_early (g.T.Tape.given c.reading.tape) (g.T.Tape.given c.take.new.self) c.reading.invariant.goes piece c.in-Ok.ensures.given (search rules) c.args.variables (refused_by c.in-Some.refused) told
