use Rattle.std.proofs.Common.{◌≡◌, ◌∙◌, ℕ, Option, Ok, ap, subst}
use Rattle.clause_base.specs.Choice.{Known}
use Rattle.clause_base.specs.Formula.{Cnf, IsModel}
use Rattle.goal_choice.specs.Choice.{choice_by}
use Rattle.horizon_run.specs.Run.{choice_of, Stays}
use Rattle.commands.specs.declared.prove.Proved.TheVariants.{Certificate, Plan}
use Rattle.commands.proofs.Runs.{certificate_over, value_of}
use Rattle.commands.proofs.prove.run_on.Goals as goal

pub returns-clause-certified : goal.returns-clause-certified
returns-clause-certified g c text e =
    let inner : c.in_ok-proved.proved ≡ Certificate text = value_of c.in_ok-proved.proved (Certificate text) e in
    certificate_over (λ h. c.go_on.new.self.formula) (g.F.StepForm.formula_of c.args.form.now) text c.args.horizon
    (c.go_on.ensures.formula ∙ c.in_ok-solving.ensures.formula) (c.in_ok-proved.ensures.certified text (ap Ok inner))

pub returns-clause-found : goal.returns-clause-found
returns-clause-found g c conflicts e =
    let inner : c.in_ok-proved.proved ≡ Plan conflicts = value_of c.in_ok-proved.proved (Plan conflicts) e in
    let model = c.in_ok-proved.ensures.found conflicts (ap Ok inner) in
    (model.0, subst (λ (f : Cnf). IsModel f model.0) (c.go_on.ensures.formula ∙ c.in_ok-solving.ensures.formula) model.1)

pub returns-clause-stays : goal.returns-clause-stays
returns-clause-stays g c =
    let same = ap choice_by c.go_on.ensures.means ∙ c.in_ok-solving.ensures.choice in
    let over = subst (λ (choose : Known → Option ℕ). Stays choose c.go_on.new.self.formula) same c.in_ok-proved.ensures.stays in
    subst (λ (f : Cnf). Stays (choice_of c.args.task.now (g.F.StepForm.layout_of c.args.form.now c.args.horizon)) f) (c.go_on.ensures.formula ∙ c.in_ok-solving.ensures.formula) over
