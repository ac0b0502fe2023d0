-- The run of a horizon as one that workers advance.
use Rattle.std.specs.Prelude.{ℕ, ◌+◌, Bool, false}
use Rattle.cdcl_defs.specs.Run.{start_of, after, is_going}
use Rattle.horizon_run.specs.Run.{RunView, choice_in}

-- the run before any conflict was granted
abbrev pub origin : RunView → RunView
origin r = record r { state = start_of r.formula; granted = 0; spoilt = false }

-- what so many more conflicts make of a run
abbrev pub moved_by : RunView → ℕ → RunView
moved_by r k = record r { state = after (choice_in r) r.state k; granted = r.granted + k }

-- the run apart from what it was granted
abbrev pub still : RunView → RunView
still r = record r { granted = 0 }

-- whether a run is neither found nor refuted
abbrev pub goes : RunView → Bool
goes r = is_going r.state.standing
