use Rattle.state_store.proofs.TableLaw.{trees_empty}
use Rattle.state_store.proofs.table.Table.restart.Goals as goal

pub returns-clause-trees : goal.returns-clause-trees
returns-clause-trees c = λ width rows. rw (c.clear.ensures.heads, c.clear.ensures.nodes) (trees_empty width c.min.result rows)
