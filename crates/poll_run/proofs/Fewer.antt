-- A pending poll leaves fewer polls.
use Rattle.std.proofs.Common.{arith, ◌≡◌, ℕ, ◌-◌, ◌<◌, Option, Some, None}
use Rattle.std.specs.Option.{IsSomeAnd}
use Rattle.futures.specs.declared.task.Poll.{Poll}
use Rattle.futures.specs.declared.task.Poll.TheVariants.{Ready, Pending}
use Rattle.futures.specs.Poll.{OnPending}
use Rattle.solver_pool.specs.declared.resume.Resume.{Ghosts}
use Rattle.poll_run.specs.Polls.{Polling, AtPoll, Spends, polls_left}

module _ {R : Type 0} (g : Ghosts R) where
  abbrev left_by : ℕ → Option R → ℕ
  left_by target o = elim o [ Some run ↦ target - g.granted_of run | None ↦ 0 ]

  fewer_by : (target later : ℕ) (o p : Option R) → later ≡ target → IsSomeAnd o (λ before. IsSomeAnd p (λ after. Spends g target before after)) → left_by later p < left_by target o
  fewer_by target later (Some before) (Some after) e h = let s = h.0 in let t = h.1.2 in omega (arith, s, t, e)
  fewer_by target later (Some before) None e h = absurd h
  fewer_by target later None p e h = absurd h

  pub fewer : (p q : Polling R) (r : Poll R) → q.target ≡ p.target → OnPending r (AtPoll p q r (Spends g p.target)) → OnPending r (polls_left g q < polls_left g p)
  fewer p q Pending e h = fewer_by p.target q.target p.run q.run e h
  fewer p q (Ready after) e h = tt
