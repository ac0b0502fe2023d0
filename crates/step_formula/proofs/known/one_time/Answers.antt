use Rattle.step_formula.proofs.KnownLaw.{known_step}
use Rattle.step_formula.proofs.known.one_time.Goals as goal

pub loop-i-preserved : goal.loop-i-preserved
loop-i-preserved c =
    known_step c.args.pairs.now.clauses c.loop-i.i c.at-l.result c.at-l.result _ c.loop-i.clauses c.add_known.new.clauses c.at-l.ensures c.loop-i.invariant c.in_ok-add_known.ensures
