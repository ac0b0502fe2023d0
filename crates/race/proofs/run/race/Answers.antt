use Rattle.std.proofs.Common.{arith, ◌≡◌, ◌+◌, Err, refl, subst}
use Rattle.std.proofs.lemmas.Result.{IfErr-at_err, err_from_is_err_and}
use Rattle.gt_core.specs.Task.{Task}
use Rattle.race.specs.declared.error.RaceError.TheVariants.{Literals}
use Rattle.race.specs.declared.racing.Step.{Step}
use Rattle.race.specs.declared.racing.Step.TheVariants.{On as OnStep}
use Rattle.race.specs.Begun.{Comes, IsEndOf, TellsLarge}
use Rattle.race.specs.Ends.{WherePlanned, AreActions}
use Rattle.race.specs.Input.{input_of}
use Rattle.race.proofs.run.race.Given.{Over}
use Rattle.race.proofs.run.race.Goals.{In-End, In-On}
use Rattle.race.proofs.run.race.Goals as goal

pub rounds-init : goal.rounds-init
rounds-init g c = c.new-racing.ensures.between (input_of g.F.StepForm c.args.form.now c.args.settings.now) refl refl

-- what the round led to
on : (g : Over) (c : In-On g) → Comes g.F.StepForm c.args.form.now c.args.settings.now (c.rounds.racing.rounds + 1) (OnStep c.in-On.next)
on g c = subst (λ (step : Step). Comes g.F.StepForm c.args.form.now c.args.settings.now (c.rounds.racing.rounds + 1) step) c.in-On.is c.in_ok-next.ensures.comes

ends : (g : Over) (c : In-End g) → IsEndOf g.F.StepForm c.args.form.now c.args.settings.now c.in-End.end
ends g c = subst (λ (step : Step). Comes g.F.StepForm c.args.form.now c.args.settings.now (c.rounds.racing.rounds + 1) step) c.in-End.is c.in_ok-next.ensures.comes

pub rounds-preserved : goal.rounds-preserved
rounds-preserved g c = (on g (goal.at.rounds-preserved g c).In-On).0

pub rounds-smaller : goal.rounds-smaller
rounds-smaller g c =
    let o = on g (goal.at.rounds-smaller g c).In-On in
    let next = o.1 in
    let few = o.0.few in
    let within = o.0.tied.within in
    omega (arith, next, few, within)

pub returns-in-End : goal.returns-in-End
returns-in-End g c =
    let e = ends g (goal.at.returns-in-End g c).In-End in
    record {
      gives = e.gives;
      lines = e.lines;
      refuted = e.refuted;
      sums = e.sums;
      modelled = e.modelled;
      plan = e.plan;
      long = e.long;
      members = subst (λ (task : Task). WherePlanned c.in-End.end (λ h steps. AreActions task steps)) c.requires e.members;
      literals = λ h n x. cc;
    }

pub returns-in_err-next-clause-literals : goal.returns-in_err-next-clause-literals
returns-in_err-next-clause-literals g c =
    let input = input_of g.F.StepForm c.args.form.now c.args.settings.now in
    let p = err_from_is_err_and c.from_residual-in_err-next.result c.from_residual-in_err-next.ensures.1 in
    λ h n e.
    let same = p.2 in
    let at = p.1 in
    let was = c.in_err-next.was in
    let here : c.round.result ≡ Err (Literals h n) = cc in
    IfErr-at_err (TellsLarge input) here c.round.ensures.large
