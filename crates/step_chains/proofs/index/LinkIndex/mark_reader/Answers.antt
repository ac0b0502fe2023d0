use Rattle.std.proofs.Common.{◌==◌, true, false, if◌then◌else◌}
use Rattle.step_chains.proofs.IndexLaw.{marks_same, if_it, if_not}
use Rattle.step_chains.proofs.index.LinkIndex.mark_reader.Goals as goal

pub returns-clause-marks : goal.returns-clause-marks
returns-clause-marks c =
    marks_same c.args.a (λ m. if c.args.lit == m then false else false) (λ m. false) (λ m. if c.args.lit == m then true else false) (λ m. c.args.lit == m) c.args.self.now c.mark.new.self
    (λ m. if_not (c.args.lit == m)) (λ m. if_it (c.args.lit == m)) c.in_ok-mark.ensures.marks
