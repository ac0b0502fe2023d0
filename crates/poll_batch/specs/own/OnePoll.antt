-- What one poll of a race does: it begins a round, polls one live run once, or ends a round.
use Rattle.std.specs.Prelude.{◌≡◌, ℕ, ◌+◌, ◌⊎◌, List, [], ◌∷◌, Some, IsSomeAnd}
use Rattle.horizon_run.specs.Run.{RunView, moved_to}
use Rattle.poll_run.specs.PolledRun.{next_granted}
use Rattle.poll_run.specs.Polls.{Polling}
use Rattle.poll_batch.specs.own.Numbers.{Numbers}

-- a round begins, of which no run is done
abbrev pub BeginsRound : Numbers → Numbers → Type 0
BeginsRound m n = (m.begun ≡ 0) × (n.begun ≡ 1) × (n.ended ≡ m.ended) × (n.done ≡ 0)

-- a run was granted a slice more, or what was left to its target where that is less, and is where so much has it
abbrev pub GoesBy : ℕ → Polling RunView → RunView → Type 0
GoesBy slice first after = IsSomeAnd first.run (λ before. after ≡ moved_to before (next_granted slice first.target before.granted))

-- the run at hand is polled once, and no other: it is kept where it has more to do, and done else
abbrev pub PollsRun : ℕ → (m n : Numbers) → (runs left : List (Polling RunView)) → Type 0
PollsRun slice m n runs left =
    (first : Polling RunView) × (rest : List (Polling RunView)) × (after : RunView) × (runs ≡ first ∷ rest) × GoesBy slice first after
    × (m.begun ≡ 1) × (n.begun ≡ 1) × (n.ended ≡ m.ended)
    × (((left ≡ record first { run = Some after } ∷ rest) × (n.done ≡ m.done)) ⊎ ((left ≡ rest) × (n.done ≡ m.done + 1)))

-- no run is polled any more, and the round ends
abbrev pub EndsRound : (m n : Numbers) → List (Polling RunView) → Type 0
EndsRound m n runs = (runs ≡ []) × (m.begun ≡ 1) × (n ≡ record { ended = m.ended + 1; begun = 0; done = 0; granted = 0 })

-- of a race by polls of so many conflicts: how far it was and is, and the runs that were and are polled yet
abbrev pub DoesOne : ℕ → (m n : Numbers) → (runs left : List (Polling RunView)) → Type 0
DoesOne slice m n runs left = BeginsRound m n ⊎ (PollsRun slice m n runs left ⊎ EndsRound m n runs)
