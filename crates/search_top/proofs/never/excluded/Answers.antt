use Rattle.std.proofs.Common.{[]}
use Rattle.search_top.proofs.Knowing.{known_of, has_literals}
use Rattle.search_top.proofs.never.excluded.Goals as goal

pub excluded_goal-requires-clause-known : goal.excluded_goal-requires-clause-known
excluded_goal-requires-clause-known g c = known_of c.args.task.now c.in_ok-known.known c.in_ok-known.ensures.facts c.in_ok-known.ensures.greatest

pub excluded_goal-requires-clause-initial : goal.excluded_goal-requires-clause-initial
excluded_goal-requires-clause-initial g c = c.in_ok-known.ensures.holds [] tt

pub returns-clause-excluded : goal.returns-clause-excluded
returns-clause-excluded g c = (c.in_ok-known.known.clauses, c.in_ok-known.ensures.greatest, c.in_ok-by.ensures)

pub returns-clause-literals : goal.returns-clause-literals
returns-clause-literals g c = has_literals c.args.task.now c.in_ok-known.known.clauses c.in_ok-by.by c.facts-facts.ensures.lawful c.in_ok-by.ensures
