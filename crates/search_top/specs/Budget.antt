-- How many states a walk may enter.
use Rattle.std.specs.Prelude.{ℕ, ◌*◌, ◌/◌, min, max}
use Rattle.gt_core.specs.Task.{Task}
use Rattle.state_store.specs.Store.{bytes_of}
use Rattle.greedy_walk.specs.Bytes.{most_within_of}
use Rattle.search_top.specs.Limits.{most_count}
use Rattle.search_top.specs.declared.request.How.{How}
use Rattle.search_top.specs.declared.request.How.TheVariants.{Greedy, Least}

-- the bytes of a megabyte
abbrev pub megabyte : ℕ
megabyte = 1048576

-- how many states of a task so many bytes hold
abbrev pub held_by : How → Task → ℕ → ℕ
held_by Greedy task bytes = most_within_of task.facts bytes
held_by Least task bytes = min (bytes / bytes_of task.facts) most_count

-- as many as the words ask for, where the megabytes of the words hold them, and one at least
abbrev pub budget_of : How → ℕ → ℕ → Task → ℕ
budget_of how states memory task = min (max (held_by how task (memory * megabyte)) 1) states
