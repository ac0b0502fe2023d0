use Rattle.race.proofs.Finds.{refuted-line}
use Rattle.race.proofs.line.refuted.Goals as goal

pub returns-clause-line : goal.returns-clause-line
returns-clause-line g c =
    refuted-line g.input c.args.run.now c.horizon-horizon.result c.conflicts-conflicts.result c.in_ok-take_mark.field-0 c.requires.0 c.horizon-horizon.ensures
    c.conflicts-conflicts.ensures.value c.requires.1 c.in_ok-take_mark.ensures.certified
