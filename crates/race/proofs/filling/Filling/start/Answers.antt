use Rattle.std.proofs.Common.{◌≡◌, ℕ, ◌≤◌, ◌∙◌, Option, sym, ap, refl, subst}
use Rattle.clause_base.specs.Choice.{Known}
use Rattle.clause_base.specs.Formula.{Cnf}
use Rattle.step_encoding.specs.Limits.{planner_literals}
use Rattle.step_encoding.specs.Numbers.{literals_of}
use Rattle.horizon_run.specs.Run.{RunView, choice_in}
use Rattle.race.specs.own.Filling.{racing_of}
use Rattle.race.specs.Runs.{IsRunOf}
use Rattle.race.proofs.published.Starts.{IsStart, taken, is_run, new_low, tied-start, low-start, race-start}
use Rattle.race.proofs.filling.Filling.start.Given.{Over}
use Rattle.race.proofs.filling.Filling.start.Goals.{In_ok-push}
use Rattle.race.proofs.filling.Filling.start.Goals as goal

-- the run is of the input's formula, and chooses as the input does
formula-same : (g : Over) (c : In_ok-push g) → g.input.formula c.args.horizon ≡ g.F.StepForm.formula_of c.args.form.now c.args.horizon
formula-same g c = ap (λ (f : ℕ → Cnf). f c.args.horizon) c.requires.1.1.1.1.0

chosen : (g : Over) (c : In_ok-push g) → g.input.choose c.args.horizon ≡ choice_in c.args.run
chosen g c = ap (λ (f : ℕ → Known → Option ℕ). f c.args.horizon) c.requires.1.1.1.0 ∙ sym c.requires.1.1.1.1.1.0.choice

named : (g : Over) (c : In_ok-push g) → c.args.run.formula.name ≡ c.args.horizon
named g c = ap (λ (f : Cnf). f.name) c.requires.1.1.1.1.1.0.formula ∙ (g.F.StepForm.numbers c.args.form.now c.args.horizon).name

-- the horizon is started
starts : (g : Over) (c : In_ok-push g) → IsStart (racing_of c.args.self.now) (racing_of (record c.args.self.now { window = c.take_next.new.self; last = c.args.horizon; runs = c.push.new.self })) c.args.run c.args.horizon
starts g c =
    let took = c.take_next.ensures in
    record {
      window = taken c.args.self.now.window c.take_next.new.self c.take_next.result c.args.horizon took.none took.next took.taken c.requires.1.1.1.1.1.1.1.1.0 c.requires.1.1.1.1.1.1.1.1.1;
      runs = c.in_ok-push.ensures.items;
      last = refl;
      ledger = refl;
      lines = refl;
    }

pub returns-clause-tied : goal.returns-clause-tied
returns-clause-tied g c =
    let after = (goal.at.returns-clause-tied g c).In_ok-push in
    let told = c.requires.1.1.1.1.1.0 in
    let same = formula-same g after in
    let name : (g.input.formula c.args.horizon).name ≡ c.args.horizon = ap (λ (f : Cnf). f.name) same ∙ (g.F.StepForm.numbers c.args.form.now c.args.horizon).name in
    let small = subst (λ (f : Cnf). literals_of f ≤ planner_literals) (sym same) c.requires.1.1.1.1.1.1.1.0 in
    let r : IsRunOf g.input c.args.run = is_run g.input c.args.horizon c.args.run (chosen g after) (told.formula ∙ sym same) name c.requires.1.1.1.1.1.1.0 small told.new c.keeps_laws.ensures.reached in
    tied-start g.input _ _ _ _ c.requires.1.0 (starts g after) (named g after) r (ap (λ (x : RunView). x.granted) told.new) c.requires.1.1.1.1.1.1.1.1.0

pub returns-clause-low : goal.returns-clause-low
returns-clause-low g c =
    let run = c.args.run in
    low-start c.args.self.now.runs.items c.push.new.self.items run c.in_ok-push.ensures.items c.requires.1.1.0
    (new_low run c.requires.1.1.1.1.1.0.new (c.keeps_laws.ensures.reached 0))

pub returns-clause-started : goal.returns-clause-started
returns-clause-started g c =
    let after = (goal.at.returns-clause-started g c).In_ok-push in
    let told = c.requires.1.1.1.1.1.0 in
    race-start g.input _ _ _ _ (starts g after) (chosen g after) (told.formula ∙ sym (formula-same g after)) (named g after) told.new
