use Rattle.std.proofs.Common.{length, ap}
use Rattle.step_formula.proofs.StepLaw.{one_fits}
use Rattle.step_formula.proofs.template.one_layout.Goals as goal

pub new-requires : goal.new-requires
new-requires c = one_fits c.args.task.now c.acts.ensures.lawful _ c.conditional.result c.args.chains c.facts.result (ap length c.acts.ensures.acts) c.conditional.ensures.conditional c.requires c.facts.ensures.facts
