use Rattle.std.proofs.Common.{length, ap, ◌∙◌}
use Rattle.step_laws.specs.Form.{OrderedTask}
use Rattle.step_encoding.proofs.Counted.{size_from}
use Rattle.step_encoding.proofs.placed.PlacedStepForm.size.Goals as goal

pub returns-clause-size : goal.returns-clause-size
returns-clause-size g c =
    let form : OrderedTask = record { task = c.self.inside.task.now; known = c.self.inside.pairs.now; components = c.self.inside.order.now } in
    size_from g.P.Placing.places g.P.Placing.lawful.in_range form c.args.self.now c.args.n c.from.result (length c.goal.result.now) c.from-2.result c.from-3.result c.self.inside.step_size c.self.inside.known_size c.self.view_is c.self.invariant.ordered (c.from.ensures ∙ c.facts.ensures.facts) (ap length c.goal.ensures) c.from-2.ensures c.from-3.ensures c.self.invariant.step_size c.self.invariant.known_size
