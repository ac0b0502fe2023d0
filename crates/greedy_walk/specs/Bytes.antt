-- How much memory walks take.
use Rattle.std.specs.Prelude.{ℕ, ◌+◌, ◌/◌, min}
use Rattle.state_store.specs.Store.{bytes_of}

-- how many bytes a state of so many facts takes in the queues of those who lead the walks
abbrev pub queue_bytes : ℕ
queue_bytes = 104

-- how many states of so many facts these bytes hold, with their places in the queues: 4294967295 at most
abbrev pub most_within_of : ℕ → ℕ → ℕ
most_within_of facts bytes = min (bytes / (bytes_of facts + queue_bytes)) 4294967295
