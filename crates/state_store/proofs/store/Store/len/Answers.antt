use Rattle.state_store.proofs.StoreLaw.{distinct}
use Rattle.state_store.proofs.store.Store.len.Goals as goal

pub returns-clause-distinct : goal.returns-clause-distinct
returns-clause-distinct c = rw (← c.self.view_is) (distinct c.self.inside.facts c.self.inside.rows.rows c.self.invariant.0.packed c.self.invariant.0.kept.apart)
