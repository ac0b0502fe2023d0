-- The actions of a task, as a walk asks for them.
use Rattle.gt_core.specs.Task.{Task}
use Rattle.successors.specs.Trie.{IsTrie}
use Rattle.successors.specs.Moves.{IsMoves}
use Rattle.successors.specs.declared.ways.Ways.{Ways}

-- they are made for the task: a trie of its actions, and a copy of what these need and do
pub record IsWays (task : Task) (w : Ways) : Type 0 where
  pub trie : IsTrie task w.trie
  pub moves : IsMoves task w.moves
