-- The runs of a round that are polled.
use Rattle.std.specs.Prelude.{◌≡◌, ℕ, ◌-◌, ◌≤◌, List, [], ◌∷◌, map, Some, None, IsSomeAnd}
use Rattle.std.specs.List.{AllByRecursion}
use Rattle.horizon_run.specs.Run.{RunView, moved_to}
use Rattle.poll_run.specs.Polls.{Polling}
use Rattle.poll_batch.specs.declared.work.Work.{Work}

-- the runs, each with all of its target granted
abbrev pub at_targets : List Work → List RunView
at_targets [] = []
at_targets (w ∷ ws) = elim w.poll.run [ Some r ↦ moved_to r w.poll.target ∷ at_targets ws | None ↦ at_targets ws ]

-- a run that was not given yet, polled by so many conflicts at most: it was granted no less than before the round, and no more than
-- its target
abbrev pub IsAtWork : ℕ → Work → Type 0
IsAtWork slice w = IsSomeAnd w.poll.run (λ r. (w.before ≤ r.granted) × (r.granted ≤ w.poll.target)) × (w.poll.target ≤ 1073741824) × (w.poll.slice ≡ slice)

-- each run of the round is on its way to its target, by polls of this slice
abbrev pub AreAtWork : ℕ → List Work → Type 0
AreAtWork slice ws = AllByRecursion (IsAtWork slice) ws

-- what the first of them was granted in this round
abbrev pub granted_now : List Work → ℕ
granted_now [] = 0
granted_now (w ∷ ws) = elim w.poll.run [ Some r ↦ r.granted - w.before | None ↦ 0 ]

-- the runs as they are polled
abbrev pub polls_of : List Work → List (Polling RunView)
polls_of ws = map (λ w. w.poll) ws
