use Rattle.pd_words.proofs.published.NameLemmas.{number_below, number_among}
use Rattle.pd_words.proofs.table.Table.number.Goals as goal

pub returns-clause-below : goal.returns-clause-below
returns-clause-below c = rw (c.find.ensures, c.as_slice.ensures) (number_below c.args.name.now c.args.self.now)

pub returns-clause-among : goal.returns-clause-among
returns-clause-among c = rw (c.find.ensures, c.as_slice.ensures) (number_among c.args.name.now c.args.self.now)
