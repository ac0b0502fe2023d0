use Rattle.step_chains.proofs.published.ExtendLaw.{short_found, one_component}
use Rattle.step_chains.proofs.chains.Chains.add_component.Goals as goal

pub returns-then-members-lt2-clause-added : goal.returns-then-members-lt2-clause-added
returns-then-members-lt2-clause-added c = short_found c.args.task.now c.args.members.now c.args.self.now c.if-members-lt2.true

pub returns-clause-added : goal.returns-clause-added
returns-clause-added c = one_component c.args.task.now c.args.members.now c.args.self.now _ c.in_ok-add_members.ensures.added
