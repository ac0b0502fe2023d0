use Rattle.grounding_defs.proofs.Reaching.{least_is_closed}
use Rattle.grounding_defs.proofs.Runs.{calls_are_actions, actions_are_calls, atoms_are_known, goals_agree}
use Rattle.grounding_defs.proofs.published.Founding.{sound_is_least, least_is_grounded}
use Rattle.grounding_defs.proofs.published.Unique.{one_result}
use Rattle.grounding_defs.proofs.TaskLaw.{grounded_is_task, grounded_is_within}
use Rattle.grounding_defs.proofs.laws.laws.Goals as goal

pub returns-clause-least_is_closed : goal.returns-clause-least_is_closed
returns-clause-least_is_closed c = least_is_closed

pub returns-clause-calls_are_actions : goal.returns-clause-calls_are_actions
returns-clause-calls_are_actions c = calls_are_actions

pub returns-clause-actions_are_calls : goal.returns-clause-actions_are_calls
returns-clause-actions_are_calls c = actions_are_calls

pub returns-clause-atoms_are_known : goal.returns-clause-atoms_are_known
returns-clause-atoms_are_known c = atoms_are_known

pub returns-clause-goals_agree : goal.returns-clause-goals_agree
returns-clause-goals_agree c = goals_agree

pub returns-clause-one_result : goal.returns-clause-one_result
returns-clause-one_result c = one_result

pub returns-clause-sound_is_least : goal.returns-clause-sound_is_least
returns-clause-sound_is_least c = sound_is_least

pub returns-clause-least_is_grounded : goal.returns-clause-least_is_grounded
returns-clause-least_is_grounded c = least_is_grounded

pub returns-clause-grounded_is_within : goal.returns-clause-grounded_is_within
returns-clause-grounded_is_within c = grounded_is_within

pub returns-clause-grounded_is_task : goal.returns-clause-grounded_is_task
returns-clause-grounded_is_task c = grounded_is_task
