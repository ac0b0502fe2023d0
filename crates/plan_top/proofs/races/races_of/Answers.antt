use Rattle.std.proofs.Common.{arith, ◌∙◌, ap, sym, subst}
use Rattle.step_laws.specs.Form.{OrderedTask}
use Rattle.plan_top.specs.own.Parts.{IsFormOf, IsRaceOf}
use Rattle.plan_top.specs.declared.parts.Run.{Run}
use Rattle.poll_batch.proofs.published.Whole.{zip-pushed}
use Rattle.plan_top.proofs.Lists.{zip_here, zip_length}
use Rattle.plan_top.proofs.races.races_of.Goals as goal

pub bounds-forms-place : goal.bounds-forms-place
bounds-forms-place c =
    let same = zip_length IsFormOf c.args.runs.now c.args.forms.now c.requires in
    omega (arith, same, c.loop-place-test.true, c.loop-place.auto.place-end)

pub new-requires-clause-form_of : goal.new-requires-clause-form_of
new-requires-clause-form_of c =
    let of =
    zip_here IsFormOf c.args.runs.now c.args.forms.now c.loop-place.place c.index-runs-place.result c.index-forms-place.result c.requires (omega (arith, c.loop-place-test.true, c.loop-place.auto.place-end))
    c.index-runs-place.is c.index-forms-place.is in
    ap (λ (form : OrderedTask). form.task) of.1 ∙ (ap (λ (run : Run). run.ready.grounded.task) c.index-runs-place.is ∙ sym c.task-task.ensures)

pub loop-place-preserved : goal.loop-place-preserved
loop-place-preserved c =
    let of =
    zip_here IsFormOf c.args.runs.now c.args.forms.now c.loop-place.place c.index-runs-place.result c.index-forms-place.result c.requires (omega (arith, c.loop-place-test.true, c.loop-place.auto.place-end))
    c.index-runs-place.is c.index-forms-place.is in
    let race : IsRaceOf c.args.settings.now c.index-runs-place.result c.in_ok-race.race = record {
      form = subst (IsFormOf c.index-runs-place.result) (sym c.in_ok-race.ensures.form) of;
      rates = c.in_ok-race.ensures.rates;
      budget = c.in_ok-race.ensures.budget;
      live = c.in_ok-race.ensures.live;
    } in
    zip-pushed (IsRaceOf c.args.settings.now) c.args.runs.now c.loop-place.races.items _ c.loop-place.place c.index-runs-place.result _ c.in_ok-push.ensures.items (omega (arith, c.loop-place-test.true, c.loop-place.auto.place-end))
    c.index-runs-place.is race c.loop-place.invariant
