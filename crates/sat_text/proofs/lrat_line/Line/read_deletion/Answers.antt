use Rattle.std.proofs.Common.{ap, Ok, true, []}
use Rattle.sat_text.proofs.LineLaws.{deletion_is, held_deletion, plain_ids_of}
use Rattle.sat_text.proofs.lrat_line.Line.read_deletion.Goals as goal

pub returns-clause-line : goal.returns-clause-line
returns-clause-line c e =
    let ids = c.in_ok-read_ids.ensures.read (ap Ok c.if-not-branch.false) in
    let plain = plain_ids_of c.args.self.now c.read_ids.new.self ids.0 c.requires ids.2 e in (
      record { id = c.args.self.now.id; deletes = true; literals = []; hints = ids.0 },
      deletion_is c.args.self.now.id c.args.words.now ids.0 ids.1 plain,
      held_deletion c.args.self.now c.read_ids.new.self ids.0 c.requires ids.2,
    )
