use Rattle.std.proofs.Common.{ap, Ok, false}
use Rattle.sat_text.proofs.LineLaws.{addition_is, held_addition}
use Rattle.sat_text.proofs.lrat_line.Line.read_addition.Goals as goal

pub returns-clause-line : goal.returns-clause-line
returns-clause-line c e =
    let ids = c.read_ids.ensures.read e in
    let literals = c.in_ok-read_part.ensures.read (ap Ok c.if-not-branch.false) in (
      record { id = c.args.self.now.id; deletes = false; literals = literals.0; hints = ids.0 },
      addition_is c.args.self.now.id c.args.words.now c.read_part.new.words literals.0 ids.0 literals.1 ids.1,
      held_addition c.args.self.now c.read_part.new.self c.read_ids.new.self literals.0 ids.0 c.requires literals.2 ids.2,
    )
