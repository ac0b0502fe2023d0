use Rattle.std.proofs.Common.{◌∙◌, sym, ap}
use Rattle.sat_text.specs.Words.{first_number}
use Rattle.sat_text.proofs.LineLaws.{line_none, line_minus, read_so}
use Rattle.sat_text.proofs.lrat_line.Line.read.Goals as goal

pub returns-in_default-clause-none : goal.returns-in_default-clause-none
returns-in_default-clause-none c e = line_none c.args.bytes.now (ap first_number (sym c.of-words.ensures) ∙ (sym c.number.ensures.number ∙ c.in_default.is))

pub returns-then-id-clause-none : goal.returns-then-id-clause-none
returns-then-id-clause-none c e = line_minus c.args.bytes.now c.in-Some.id (ap first_number (sym c.of-words.ensures) ∙ (sym c.number.ensures.number ∙ c.in-Some.is)) c.if-id.true

pub returns-clause-line : goal.returns-clause-line
returns-clause-line c e =
    let read = c.read_rest.ensures.line e in
    let line = read_so c.args.bytes.now _ _ _ _ c.in-Some.id _ _ _ c.of-words.ensures c.number.ensures.number c.in-Some.is c.in-Some.ensures.passed c.if-id.false c.is_deletion.ensures.is c.is_deletion.ensures.passed c.begin.ensures.deletes c.begin.ensures.id in
    (read.0, line ∙ read.1, read.2)

pub returns-clause-none : goal.returns-clause-none
returns-clause-none c e =
    let line = read_so c.args.bytes.now _ _ _ _ c.in-Some.id _ _ _ c.of-words.ensures c.number.ensures.number c.in-Some.is c.in-Some.ensures.passed c.if-id.false c.is_deletion.ensures.is c.is_deletion.ensures.passed c.begin.ensures.deletes c.begin.ensures.id in
    line ∙ c.read_rest.ensures.none e
