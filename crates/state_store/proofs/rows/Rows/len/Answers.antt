use Rattle.std.proofs.Common.{sym}
use Rattle.state_store.proofs.RowsLaw.{length-rows}
use Rattle.state_store.proofs.rows.Rows.len.Goals as goal

pub returns-clause-len : goal.returns-clause-len
returns-clause-len c = rw (← c.self.view_is) (sym (length-rows c.self.inside.width c.self.inside.count c.self.inside.words.items))
