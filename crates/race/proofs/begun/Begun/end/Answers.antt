use Rattle.race.proofs.Comes.{comes-if}
use Rattle.race.proofs.begun.Begun.end.Goals as goal

pub returns : goal.returns
returns g c =
    comes-if g.F.StepForm c.args.form.now c.args.settings.now c.size-lawful.ensures.lawful c.args.self c.args.runs.items c.requires
    c.judge.result c.judge.ensures.stands c.judge.ensures.spends c.judge.ensures.rounds
