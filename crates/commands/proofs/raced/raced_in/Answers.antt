use Rattle.std.proofs.Common.{◌≡◌, ◌∙◌, ℕ, Err, refl, ap}
use Rattle.step_laws.specs.Form.{OrderedTask}
use Rattle.commands.specs.Known.{form_of}
use Rattle.commands.proofs.published.RaceEnds.{comes_to, too_large_to}
use Rattle.commands.proofs.raced.raced_in.Goals as goal

pub returns-in-Ok-clause-ended : goal.returns-in-Ok-clause-ended
returns-in-Ok-clause-ended g c =
    let task = c.args.task.now in
    let known = c.in_ok-known.known in
    let so = c.in_ok-known.ensures.known in
    let form = c.in_ok-form.form in
    let same : form ≡ form_of task known.pairs.clauses known.order =
    c.in_ok-form.ensures ∙ ap (λ (n : ℕ). let f : OrderedTask = record { task = task; known = record { facts = n; clauses = known.pairs.clauses }; components = known.order } in f) so.facts in
    comes_to g.P.Placing.places g.P.Placing.are_plan task known so form same c.args.settings.now c.in-Ok.end c.in-Ok.ensures.gives c.in-Ok.ensures.lines c.in-Ok.ensures.refuted c.in-Ok.ensures.plan c.in-Ok.ensures.modelled
    c.in-Ok.ensures.members c.in-Ok.ensures.sums

pub returns-in-Err-Literals-clause-stops : goal.returns-in-Err-Literals-clause-stops
returns-in-Err-Literals-clause-stops g c =
    let task = c.args.task.now in
    let horizon = c.in-Err-Literals.horizon in
    let count = c.in-Err-Literals.count in
    let known = c.in_ok-known.known in
    let so = c.in_ok-known.ensures.known in
    let form = c.in_ok-form.form in
    let same : form ≡ form_of task known.pairs.clauses known.order =
    c.in_ok-form.ensures ∙ ap (λ (n : ℕ). let f : OrderedTask = record { task = task; known = record { facts = n; clauses = known.pairs.clauses }; components = known.order } in f) so.facts in
    let told = c.in-Err-Literals.ensures.literals horizon count (ap Err c.in-Err-Literals.field-0-is) in
    (horizon, count, refl, too_large_to g.P.Placing.places g.P.Placing.are_plan task known so form same c.args.settings.now horizon count told.0 told.1)
