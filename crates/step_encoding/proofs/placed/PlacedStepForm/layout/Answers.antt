use Rattle.std.proofs.Common.{length, ap}
use Rattle.step_laws.specs.Form.{OrderedTask}
use Rattle.step_encoding.proofs.Counted.{numbers_fit, variables_of}
use Rattle.step_encoding.proofs.placed.PlacedStepForm.layout.Goals as goal

pub new-requires : goal.new-requires
new-requires g c =
    let form : OrderedTask = record { task = c.self.inside.task.now; known = c.self.inside.pairs.now; components = c.self.inside.order.now } in
    numbers_fit g.P.Placing.places g.P.Placing.lawful.in_range form c.args.self.now c.args.n _ c.self.inside.conditional c.variables.result c.facts.result c.self.view_is c.self.invariant.ordered c.requires.horizon c.requires.size (ap length c.acts.ensures.acts) c.self.invariant.conditional (variables_of c.self.inside.chains form.task (g.P.Placing.places form.task form.components) c.variables.result c.variables.ensures.count c.self.invariant.chains) c.facts.ensures.facts
