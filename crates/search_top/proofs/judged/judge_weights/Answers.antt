use Rattle.search_top.proofs.Knowing.{known_of}
use Rattle.search_top.proofs.judged.judge_weights.Goals as goal

pub check_weights-requires-clause-known : goal.check_weights-requires-clause-known
check_weights-requires-clause-known g c = known_of c.args.task.now c.in_ok-known.known c.in_ok-known.ensures.facts c.in_ok-known.ensures.greatest

pub returns-clause-said : goal.returns-clause-said
returns-clause-said g c = (c.in_ok-known.known.clauses, c.in_ok-known.ensures.greatest, (c.in_ok-verdict.verdict, c.in_ok-verdict.ensures, c.said_weights.ensures))
