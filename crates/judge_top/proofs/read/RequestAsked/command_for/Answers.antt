use Rattle.std.proofs.Common.{codes}
use Rattle.clap.specs.Words.{app_of}
use Rattle.requests.specs.Passed.{HasNumber}
use Rattle.requests.proofs.published.Made.{made}
use Rattle.judge_top.specs.Command.{command_of, steps_list}
use Rattle.judge_top.proofs.Fit.{as_list, fit, horizon_in}
use Rattle.horizon_rates.specs.Limits.{last_horizon}
use Rattle.judge_top.proofs.read.RequestAsked.command_for.Goals as goal

pub returns : goal.returns
returns c =
    let takes = c.steps_reader.ensures in
    let k = made app_of c.command_by.result _ (command_of steps_list c.args.name) (HasNumber 0 last_horizon (codes "horizon")) c.command_by.ensures (fit _ takes c.args.name) (as_list _ takes c.args.name) (horizon_in _ c.args.name) in
    record { fit = k.0; same = k.1; values = k.2 }
