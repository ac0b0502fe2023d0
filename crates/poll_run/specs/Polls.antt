-- What one poll makes of a run.
use Rattle.std.specs.Prelude.{◌≡◌, ℕ, true, false, ◌≤◌, ◌<◌, ◌-◌, ◌⊎◌, List, [], ◌∷◌, Option, Some, None, IsSomeAnd}
use Rattle.futures.specs.declared.task.Poll.{Poll}
use Rattle.futures.specs.declared.task.Poll.TheVariants.{Ready, Pending}
use Rattle.solver_pool.specs.declared.resume.Resume.{Ghosts}
use Rattle.solver_pool.specs.Resume.{IsMoved}
use Rattle.poll_run.specs.PolledRun.{next_granted, Passes}

-- a run that is polled up to its target, a slice at a time: none once it was given
pub record Polling (R : Type 0) : Type 0 where
  pub run : Option R
  pub target : ℕ
  pub slice : ℕ

-- of the run before a poll and after it: that which is kept where it is pending, and that which is given where it is ready
abbrev pub AtPoll : {R : Type 0} → Polling R → Polling R → Poll R → (R → R → Type 0) → Type 0
AtPoll p q Pending P = IsSomeAnd p.run (λ before. IsSomeAnd q.run (λ after. P before after))
AtPoll p q (Ready after) P = IsSomeAnd p.run (λ before. P before after)

module _ {R : Type 0} (g : Ghosts R) where
  -- how many units are left to the target: so many more polls are pending at most
  abbrev pub polls_left : Polling R → ℕ
  polls_left p = elim p.run [ Some run ↦ p.target - g.granted_of run | None ↦ 0 ]

  -- it is a run of the same horizon and origin
  abbrev pub IsSame : R → R → Type 0
  IsSame before after = (g.key_of after ≡ g.key_of before) × (g.origin_of after ≡ g.origin_of before)

  -- unless it found no memory, the run was granted a slice more, or what was left to its target, and is where so much has it
  abbrev pub GoesNext : (slice target : ℕ) → R → R → Type 0
  GoesNext slice target before after = IsSame before after
      × (g.spoilt_at after ≡ false → g.granted_of after ≡ next_granted slice target (g.granted_of before))
      × (g.spoilt_at after ≡ false → IsMoved g (g.origin_of before) (g.granted_of after) after)

  -- a run that goes on is unsettled, sound and below its target
  abbrev pub GoesOn : ℕ → R → Type 0
  GoesOn target run = (g.unsettled_at run ≡ true) × (g.spoilt_at run ≡ false) × (g.granted_of run < target)

  -- at least one unit was spent, and the run goes on
  abbrev pub Spends : ℕ → R → R → Type 0
  Spends target before after = (g.granted_of before < g.granted_of after) × GoesOn target after

  -- the run is sound and where its target has it; where it has more to do, it was granted exactly its target
  abbrev pub IsThere : ℕ → R → Type 0
  IsThere target run = (g.spoilt_at run ≡ false) × IsMoved g (g.origin_of run) target run
      × (g.granted_of run ≤ target) × (g.unsettled_at run ≡ true → g.granted_of run ≡ target)

  -- it found no memory, or is there
  abbrev pub Ends : ℕ → R → Type 0
  Ends target run = (g.spoilt_at run ≡ true) ⊎ IsThere target run

  -- what a future may give
  abbrev pub Gives : Polling R → R → Type 0
  Gives p end = IsSomeAnd p.run (λ run. IsSame run end × Ends p.target end)

  -- a pending poll goes from one state of the polled run to the next, and what follows is what follows after it
  abbrev pub PassesOn : (slice target : ℕ) → R → R → Type 0
  PassesOn slice target before after = (ss : List R) → Passes g slice target after ss → Passes g slice target before (g.state_of before ∷ ss)

  -- a poll that is ready goes to the last state, unless the run found no memory
  abbrev pub PassesLast : (slice target : ℕ) → R → R → Type 0
  PassesLast slice target before after = g.spoilt_at after ≡ false → Passes g slice target before (g.state_of before ∷ g.state_of after ∷ [])

  -- a poll goes from one state of the polled run to the next, unless the run found no memory
  abbrev pub GoesThrough : Polling R → Polling R → Poll R → Type 0
  GoesThrough p q Pending = AtPoll p q Pending (PassesOn p.slice p.target)
  GoesThrough p q (Ready after) = AtPoll p q (Ready after) (PassesLast p.slice p.target)
