use Rattle.std.proofs.Common.{arith, ◌-◌, length}
use Rattle.state_search.proofs.LeastLaw.{last_goal, none_shorter}
use Rattle.state_search.proofs.sweep.plan_of.Goals as goal

pub path_to-requires-clause-goal : goal.path_to-requires-clause-goal
path_to-requires-clause-goal c = last_goal c.args.task.now c.args.store.now _ c.requires (omega (arith, c.len.ensures.len))

pub returns-clause-least : goal.returns-clause-least
returns-clause-least c =
    λ found. none_shorter c.args.task.now c.args.store.now (c.len.result - 1) (length c.in_ok-path_to.field-0) c.facts-facts.ensures.lawful c.laws.ensures.depths found (omega (arith, c.len.ensures.len)) c.in_ok-path_to.ensures.long
