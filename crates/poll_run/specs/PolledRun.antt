-- The states that a run passes through while it is polled by hand.
use Rattle.std.specs.Prelude.{◌≡◌, ℕ, false, ◌+◌, ◌-◌, min, Bool, nat_lt, if◌then◌else◌, MatchBool, List, [], ◌∷◌}
use Rattle.solver_pool.specs.declared.resume.Resume.{Ghosts}

-- how many units a run was granted after one more poll: a slice more, or what is left to the target
abbrev pub next_granted : (slice target granted : ℕ) → ℕ
next_granted slice target granted = granted + min slice (target - granted)

module _ {R : Type 0} (g : Ghosts R) where
  -- with k units granted a run goes on: it is unsettled and below its target
  abbrev pub goes_on : (target : ℕ) → R → (k : ℕ) → Bool
  goes_on target origin k = if g.unsettled_at (g.moved origin k) then nat_lt k target else false

  -- the states after the polls of a run with k units granted: at least one, the last where it goes on no more
  abbrev pub AfterPolls : (slice target : ℕ) → R → (k : ℕ) → List R → Type 0
  AfterPolls slice target origin k [] = ⊥
  AfterPolls slice target origin k (s ∷ ss) =
      (s ≡ g.state_of (g.moved origin (next_granted slice target k)))
      × MatchBool (goes_on target origin (next_granted slice target k)) (AfterPolls slice target origin (next_granted slice target k) ss) (ss ≡ [])

  -- the states that a polled run passes through: the state before the first poll, and that after each poll
  abbrev pub Passes : (slice target : ℕ) → R → List R → Type 0
  Passes slice target run [] = ⊥
  Passes slice target run (s ∷ ss) = (s ≡ g.state_of run) × AfterPolls slice target (g.origin_of run) (g.granted_of run) ss
