use Rattle.clap.specs.Words.{app_of}
use Rattle.requests.specs.Command.{command_of, lists}
use Rattle.requests.specs.own.Ranges.{Has}
use Rattle.requests.proofs.Fit.{fit, numbers_of}
use Rattle.requests.proofs.SameReaders.{as_lists}
use Rattle.requests.proofs.published.Made.{made}
use Rattle.requests.proofs.read.RequestAsked.command_for.Goals as goal

pub returns : goal.returns
returns c =
    let are = c.lists_of_words.ensures in
    let k = made app_of c.command_by.result _ (command_of lists c.args.name) (Has c.args.name) c.command_by.ensures (fit _ are c.args.name) (as_lists _ are c.args.name) (numbers_of _ c.args.name) in
    record { fit = k.0; same = k.1; values = k.2 }
