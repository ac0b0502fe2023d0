use Rattle.std.proofs.Common.{◌∙◌, ap, subst}
use Rattle.gt_core.specs.Task.{Task}
use Rattle.race_outcome.specs.Ends.{end_view}
use Rattle.plan_endings.specs.declared.ending.Outcome.{Outcome}
use Rattle.plan_endings.specs.declared.ending.Ending.TheVariants.{Report}
use Rattle.gt_core.specs.Step.{IsStepPlan}
use Rattle.formula_defs.specs.Variables.{chain_places}
use Rattle.commands.specs.Tasks.{grounded}
use Rattle.commands.specs.Raced.{ComesTo, ended, outcome_of}
use Rattle.commands.specs.Generated.{RacesGenerated, generated_report}
use Rattle.commands.proofs.Answered.{stop_handed, race_handed}
use Rattle.commands.proofs.generated.race_made.Goals as goal

pub returns-in_err-ready : goal.returns-in_err-ready
returns-in_err-ready g c =
    stop_handed c.args.made.now.domain c.args.made.now.problem (RacesGenerated c.args.kind c.args.number c.args.settings.now)
    c.in_err-ready.field-0.0 c.from_residual.result c.from_residual.ensures.1 (rw (c.as_slice.ensures, c.as_slice-2.ensures) at c.in_err-ready.ensures.stops)

pub returns-in_err-end : goal.returns-in_err-end
returns-in_err-end g c =
    race_handed chain_places IsStepPlan c.args.made.now.domain c.args.made.now.problem c.in_ok-ready.ready.task c.in_ok-ready.ready.grounded
    (rw (c.as_slice.ensures, c.as_slice-2.ensures) at c.in_ok-ready.ensures.task) c.in_ok-ready.ensures.ready c.args.settings.now (λ race. Unit {0}) (λ task h. generated_report c.args.kind c.args.number c.args.settings.now)
    c.in_err-end.field-0.0 c.from_residual-in_err-end.result c.from_residual-in_err-end.ensures.1 (rw c.task.ensures at c.in_err-end.ensures.stops)

pub returns : goal.returns
returns g c =
    let settings = c.args.settings.now in
    let ready = c.in_ok-ready.ready in
    let end = c.in_ok-end.end in
    let comes = subst (λ (t : Task). ComesTo chain_places IsStepPlan t settings end) c.task.ensures c.in_ok-end.ensures.ended in
    grounded ready.task ready.grounded (rw (c.as_slice.ensures, c.as_slice-2.ensures) at c.in_ok-ready.ensures.task) c.in_ok-ready.ensures.ready
    (ended end comes tt (ap (λ (o : Outcome). Report o c.in_ok-text.text) c.outcome.ensures ∙ ap (Report (outcome_of (end_view end))) c.in_ok-text.ensures))
