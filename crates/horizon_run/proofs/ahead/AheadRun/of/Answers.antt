use Rattle.std.proofs.Common.{ap, ◌∙◌}
use Rattle.horizon_run.specs.own.Seen.{seen_of}
use Rattle.horizon_run.proofs.Grants.{seen-now}
use Rattle.horizon_run.proofs.ahead.AheadRun.of.Goals as goal

pub returns : goal.returns
returns c = ap (λ g. seen_of c.args.run g) c.granted-granted.ensures.value ∙ seen-now c.args.run c.standing-moved.ensures.moved
