use Rattle.never_check.proofs.Least.{more_told}
use Rattle.never_check.proofs.refutes.are_refuted.Goals as goal

pub returns-clause-told : goal.returns-clause-told
returns-clause-told c = λ given least.
    more_told c.args.rules.now given c.args.lits.now c.in_ok-refuted.refuted c.args.trail.now c.refutes.new.trail least c.in_ok-refuted.ensures.facts c.in_ok-refuted.ensures.told
