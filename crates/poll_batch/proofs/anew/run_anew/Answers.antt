use Rattle.std.proofs.Common.{rules}
use Rattle.poll_batch.specs.Batch.{IsFormed, KeptGives}
use Rattle.poll_batch.proofs.published.Whole.{whole, all-here, zip-pushed}
use Rattle.poll_batch.proofs.anew.run_anew.Goals as goal

pub race-requires : goal.race-requires
race-requires g c =
    (search rules, (search rules, all-here (IsFormed g.F.StepForm) c.args.kept.now c.loop-one.one-index c.one-item.result c.requires c.loop-one-test.true c.one-item.is))

pub loop-one-preserved : goal.loop-one-preserved
loop-one-preserved g c =
    let xs = c.args.kept.now in
    let i = c.loop-one.one-index in
    let one = c.one-item.result in
    let of = all-here (IsFormed g.F.StepForm) xs i one c.requires c.loop-one-test.true c.one-item.is in
    let e = c.race.ensures in
    let gives = whole g.F.StepForm one.form.now one.settings one.task.now c.race.result of e.gives e.lines e.refuted e.sums e.modelled e.plan e.long e.members e.literals in
    zip-pushed (KeptGives g.F.StepForm) xs c.loop-one.ends.items _ i one c.race.result c.in_ok-push.ensures.items c.loop-one-test.true c.one-item.is gives c.loop-one.invariant
