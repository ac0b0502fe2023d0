use Rattle.step_formula.proofs.Bounds.{action_small}
use Rattle.step_formula.proofs.literals.action_variable.Goals as goal

pub returns-clause-small : goal.returns-clause-small
returns-clause-small c = action_small c.args.layout.now c.args.a _ c.variables-all.ensures.lawful c.requires.horizon c.requires.a c.action.ensures
