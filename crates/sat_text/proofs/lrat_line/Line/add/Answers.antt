use Rattle.sat_text.proofs.lrat_line.Line.add.Goals as goal

pub returns-in-Literals : goal.returns-in-Literals
returns-in-Literals c = rw c.in-Literals.is c.add_literal.ensures

pub returns-in-Ids : goal.returns-in-Ids
returns-in-Ids c = rw c.in-Ids.is c.add_id.ensures
