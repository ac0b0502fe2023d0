use Rattle.std.proofs.Common.{ap, sym, ◌∙◌}
use Rattle.clause_base.specs.Formula.{Cnf}
use Rattle.formula_defs.specs.Layout.{variables}
use Rattle.goal_choice.specs.Means.{Means, means_of}
use Rattle.goal_choice.specs.Choice.{choice_by}
use Rattle.horizon_run.proofs.unmade.Unmade.sharing.Goals as goal

pub invariant_of-result : goal.invariant_of-result
invariant_of-result g c =
    ap (λ (f : Cnf). f.variables) c.in-Ok.ensures.formula
    ∙ ((g.F.StepForm.numbers c.args.form.now c.args.n).variables
    ∙ (ap variables (sym c.layout.ensures)
    ∙ ap (λ (m : Means). variables m.layout) (sym c.in_ok-chooser.ensures.made)))

pub returns-clause-choice : goal.returns-clause-choice
returns-clause-choice g c =
    let task = g.F.StepForm.task c.args.form.now in
    ap choice_by (c.in_ok-chooser.ensures.of task c.requires.supporters ∙ ap (means_of task) c.layout.ensures)
