use Rattle.std.proofs.Common.{◌∙◌, ap, sym}
use Rattle.formula_defs.specs.Layout.{Layout}
use Rattle.step_laws.specs.Form.{OrderedTask}
use Rattle.step_encoding.proofs.Counted.{has_parts}
use Rattle.step_encoding.proofs.Parted.{formula_from, steps_fit, times_fit, clauses_few}
use Rattle.step_encoding.proofs.placed.Placed.built.Goals as goal

pub formula-requires : goal.formula-requires
formula-requires g c =
    let form = c.args.self.now in
    let kept : OrderedTask = record { task = c.self.inside.task.now; known = c.self.inside.pairs.now; components = c.self.inside.order.now } in
    let parts = has_parts g.P.Placing.places g.P.Placing.lawful.in_range kept form c.args.layout.now.horizon c.self.inside.conditional c.self.inside.step_size c.self.inside.known_size c.self.inside.chains c.self.inside.step c.self.inside.known c.self.view_is c.self.invariant c.requires.small in
    let places = g.P.Placing.places form.task form.components in
    let n = c.args.layout.now.horizon in
    let same = ap (λ (f : OrderedTask). f.task) c.self.view_is in
    record {
      horizon = c.requires.horizon;
      facts = ap (λ (z : Layout). z.facts) c.requires.layout ∙ sym (ap (λ (f : OrderedTask). f.task.facts) c.self.view_is);
      steps_fit = steps_fit form.task form.known.clauses places parts.within n c.args.layout.now c.self.inside.step c.requires.layout parts.step_is;
      times_fit = times_fit form.task form.known.clauses places parts.within n c.args.layout.now c.self.inside.known c.requires.layout parts.known_is;
      few = clauses_few form.task form.known.clauses places parts.within n c.args.layout.now c.self.inside.task.now c.self.inside.step c.self.inside.known c.requires.layout same parts.step_is parts.known_is c.requires.small;
    }

pub returns : goal.returns
returns g c =
    let form = c.args.self.now in
    let kept : OrderedTask = record { task = c.self.inside.task.now; known = c.self.inside.pairs.now; components = c.self.inside.order.now } in
    let parts = has_parts g.P.Placing.places g.P.Placing.lawful.in_range kept form c.args.layout.now.horizon c.self.inside.conditional c.self.inside.step_size c.self.inside.known_size c.self.inside.chains c.self.inside.step c.self.inside.known c.self.view_is c.self.invariant c.requires.small in
    formula_from form.task form.known.clauses (g.P.Placing.places form.task form.components) parts.within c.args.layout.now.horizon c.args.layout.now c.self.inside.task.now c.self.inside.step c.self.inside.known _ c.requires.layout (ap (λ (f : OrderedTask). f.task) c.self.view_is) parts.step_is parts.known_is c.in_ok-formula.ensures
