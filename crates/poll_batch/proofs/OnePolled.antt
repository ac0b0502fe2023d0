-- One poll of the run at hand, as contracts see it.
use Rattle.std.proofs.Common.{◌≡◌, ℕ, ◌+◌, false, List, ◌∷◌, Option, Some, None, inl, inr, refl, sym, ap, ◌∙◌, subst}
use Rattle.std.specs.Option.{IsSomeAnd}
use Rattle.horizon_run.specs.Run.{RunView, moved_to}
use Rattle.horizon_run.specs.contracts.turns.StartedResume.TheImpl.{ghosts}
use Rattle.poll_run.specs.PolledRun.{next_granted}
use Rattle.poll_run.specs.Polls.{Polling, GoesNext, Spends}
use Rattle.poll_batch.specs.declared.work.Work.{Work}
use Rattle.poll_batch.specs.own.Numbers.{Numbers}
use Rattle.poll_batch.specs.own.OnePoll.{GoesBy, PollsRun}
use Rattle.poll_batch.specs.own.Works.{IsAtWork, polls_of}

-- a run that found memory is where one slice more has it
moved-by : (slice target : ℕ) (r x : RunView) → GoesNext ghosts slice target r x → x.spoilt ≡ false → x ≡ moved_to r (next_granted slice target r.granted)
moved-by slice target r x next sound = ap (λ (y : RunView). record y { granted = x.granted }) (next.2 sound) ∙ ap (moved_to r) (next.1 sound)

goes-by : (slice : ℕ) (p : Polling RunView) (x : RunView) (o : Option RunView) → p.run ≡ o → p.slice ≡ slice → IsSomeAnd o (λ r. GoesNext ghosts p.slice p.target r x) → x.spoilt ≡ false → GoesBy slice p x
goes-by slice p x (Some r) e same next sound =
    subst (λ (o : Option RunView). IsSomeAnd o (λ before. x ≡ moved_to before (next_granted slice p.target before.granted))) (sym e)
    (moved-by p.slice p.target r x next sound ∙ ap (λ (k : ℕ). moved_to r (next_granted k p.target r.granted)) same)
goes-by slice p x None e same next sound = absurd next

-- the run at hand, which was kept
module _ (slice : ℕ) (w : Work) (q : Polling RunView) (works new rest : List Work) (whole : works ≡ w ∷ rest) (kept : new ≡ record w { poll = q } ∷ rest) (at_work : IsAtWork slice w)
    (target : q.target ≡ w.poll.target) (same : q.slice ≡ w.poll.slice) where
  after-by : (o p : Option RunView) → w.poll.run ≡ o → q.run ≡ p → IsSomeAnd o (λ r. IsSomeAnd p (λ x. GoesNext ghosts w.poll.slice w.poll.target r x))
      → IsSomeAnd o (λ r. IsSomeAnd p (λ x. Spends ghosts w.poll.target r x)) → (x : RunView) × (q.run ≡ Some x) × GoesBy slice w.poll x
  after-by (Some r) (Some x) e f next spends = (x, f, goes-by slice w.poll x (Some r) e at_work.2 next spends.1.1)
  after-by (Some r) None e f next spends = absurd next
  after-by None p e f next spends = absurd next

  pub goes-on : IsSomeAnd w.poll.run (λ r. IsSomeAnd q.run (λ x. GoesNext ghosts w.poll.slice w.poll.target r x))
      → IsSomeAnd w.poll.run (λ r. IsSomeAnd q.run (λ x. Spends ghosts w.poll.target r x)) → (m n : Numbers) → m.begun ≡ 1 → n.begun ≡ 1 → n.ended ≡ m.ended → n.done ≡ m.done
      → PollsRun slice m n (polls_of works) (polls_of new)
  goes-on next spends m n before now ended done =
      let after = after-by w.poll.run q.run refl refl next spends in
      let is : q ≡ record w.poll { run = Some after.0 } = λ i. record { run = after.1 i; target = target i; slice = same i } in
      let left : polls_of new ≡ record w.poll { run = Some after.0 } ∷ polls_of rest = ap polls_of kept ∙ ap (λ (p : Polling RunView). p ∷ polls_of rest) is in
      (w.poll, polls_of rest, after.0, ap polls_of whole, after.2, before, now, ended, inl (left, done))

-- the run at hand, which is done
pub is-done : (slice : ℕ) (w : Work) (x : RunView) (works new rest : List Work) → works ≡ w ∷ rest → new ≡ rest → IsAtWork slice w
    → IsSomeAnd w.poll.run (λ r. GoesNext ghosts w.poll.slice w.poll.target r x) → x.spoilt ≡ false → (m n : Numbers) → m.begun ≡ 1 → n.begun ≡ 1 → n.ended ≡ m.ended → n.done ≡ m.done + 1
    → PollsRun slice m n (polls_of works) (polls_of new)
is-done slice w x works new rest whole is at_work next sound m n before now ended done =
    (w.poll, polls_of rest, x, ap polls_of whole, goes-by slice w.poll x w.poll.run refl at_work.2 next sound, before, now, ended, inr (ap polls_of is, done))
