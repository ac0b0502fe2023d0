use Rattle.state_store.proofs.StoreLaw.{state_of_row, packed_at}
use Rattle.state_store.proofs.store.Store.row.Goals as goal

pub returns-clause-packed : goal.returns-clause-packed
returns-clause-packed c = rw (← c.self.view_is) (packed_at c.self.inside.facts c.self.inside.rows.rows c.args.number c.at.result.now c.self.invariant.0.packed c.at.ensures.row)

pub returns-clause-state : goal.returns-clause-state
returns-clause-state c = rw (← c.self.view_is) (state_of_row c.self.inside.facts c.self.inside.rows.rows c.args.number c.at.result.now c.at.ensures.row)
