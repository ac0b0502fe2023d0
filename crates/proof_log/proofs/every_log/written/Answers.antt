use Rattle.std.proofs.Common.{◌≡◌, [], sym, subst, rules}
use Rattle.proof_log.specs.Step.{told}
use Rattle.proof_log.specs.Text.{AreWritten}
use Rattle.proof_log.proofs.Lengths.{written_by}
use Rattle.proof_log.proofs.every_log.written.Goals as goal

pub loop-step-init : goal.loop-step-init
loop-step-init c = subst AreWritten c.entries-reader.ensures

pub loop-step-preserved : goal.loop-step-preserved
loop-step-preserved c = written_by c.loop-step.reader c.next.new.self c.args.log.now (told c.in-Some.step) c.in-Some.ensures.some c.entry_is_written.ensures c.loop-step.invariant

pub returns : goal.returns
returns c =
    let none : c.loop-step.reader ≡ [] = search rules in
    c.loop-step.invariant (subst AreWritten (sym none) tt)
