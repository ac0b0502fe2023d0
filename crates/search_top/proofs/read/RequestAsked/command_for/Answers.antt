use Rattle.clap.specs.Words.{app_of}
use Rattle.requests.proofs.published.Made.{made}
use Rattle.search_top.specs.Command.{simple_command, Has}
use Rattle.search_top.proofs.Fit.{as_list, fit, numbers_of}
use Rattle.search_top.proofs.read.RequestAsked.command_for.Goals as goal

pub returns : goal.returns
returns c =
    let name = c.args.name in
    let takes = c.list_reader.ensures in
    let k = made app_of c.command_by.result _ (simple_command name) (Has name) c.command_by.ensures (fit name _ takes) (as_list name _ takes) (numbers_of _ name) in
    record { fit = k.0; same = k.1; values = k.2 }
