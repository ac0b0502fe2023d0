-- A polled race comes to an end.
use Rattle.std.proofs.Common.{arith, ◌≡◌, ℕ, ◌+◌, ◌-◌, ◌<◌, ◌≤◌, List, [], ◌∷◌, length, ap, sym, subst, inl, inr, ◌∙◌, Option, Some, None}
use Rattle.std.proofs.lemmas.List.{length-append}
use Rattle.std.specs.Option.{IsSomeAnd}
use Rattle.horizon_run.specs.Run.{RunView}
use Rattle.race.specs.Input.{RaceInput}
use Rattle.race.proofs.published.Advances.{length-moved}
use Rattle.poll_batch.specs.declared.phase.Phase.{Phase}
use Rattle.poll_batch.specs.declared.phase.Phase.TheVariants.{Between, Within, Given}
use Rattle.poll_batch.specs.declared.round.Round.{Round}
use Rattle.poll_batch.specs.declared.work.Work.{Work}
use Rattle.poll_batch.specs.own.Numbers.{Numbers, IsBelow, IsBounded, polls_left}
use Rattle.poll_batch.specs.own.Works.{at_targets, granted_now, AreAtWork}
use Rattle.poll_batch.specs.own.Tied.{IsTied, IsWithin, numbers_at}

-- of a race that is further fewer polls are left
falls : (budget : ℕ) (m n : Numbers) → IsBelow m n → IsBounded budget n → polls_left budget n < polls_left budget m
falls budget m n (inl more) b = let e = b.ended in omega (arith, more, e)
falls budget m n (inr (same, inl more)) b = let e = b.begun in omega (arith, more, same, e)
falls budget m n (inr (same, inr (same2, inl more))) b = let e = b.done in omega (arith, more, same, same2, e)
falls budget m n (inr (same, inr (same2, inr (same3, more)))) b = let e = b.granted in omega (arith, more, same, same2, same3, e)

granted_by : (slice : ℕ) (w : Work) (o : Option RunView) → IsSomeAnd o (λ r. (w.before ≤ r.granted) × (r.granted ≤ w.poll.target)) → w.poll.target ≤ 1073741824
    → (elim o [ Some r ↦ r.granted - w.before | None ↦ 0 ]) ≤ 1073741824
granted_by slice w (Some r) h t = let l = h.1 in omega (arith, l, t)
granted_by slice w None h t = absurd h

granted_low : (slice : ℕ) (works : List Work) → AreAtWork slice works → granted_now works ≤ 1073741824
granted_low slice [] h = omega arith
granted_low slice (w ∷ works) h = granted_by slice w w.poll.run h.0.0 h.0.1

-- how far a race within a round comes
within_bounds : (slice : ℕ) (input : RaceInput) (round : Round) → IsWithin slice input round → IsBounded input.budget (numbers_at (Within round))
within_bounds slice input round has =
    let began = has.run.began in
    let out = began.out in
    let ledger = ap (λ l. l.budget) out.ledger in
    let budget = began.tied.budget in
    let sums = out.sums_now in
    let few = began.few in
    let runs = out.few in
    let all : length round.done.items + length (at_targets round.works.items) ≡ length has.run.first =
    sym (length-append round.done.items (at_targets round.works.items)) ∙ (ap length has.run.moved ∙ length-moved has.run.first has.run.gs) in
    record {
      ended = omega (arith, few, sums, ledger, budget);
      begun = omega arith;
      done = omega (arith, all, runs);
      granted = granted_low slice round.works.items has.work;
    }

-- and a race wherever it is
bounded : (slice : ℕ) (input : RaceInput) (phase : Phase) → IsTied slice input phase → IsBounded input.budget (numbers_at phase)
bounded slice input (Between racing) tied =
    let few = tied.few in
    let spent = tied.tied.within in
    record { ended = omega (arith, few, spent); begun = omega arith; done = omega arith; granted = omega arith }
bounded slice input (Within round) tied = within_bounds slice input round tied
bounded slice input Given tied = record { ended = omega arith; begun = omega arith; done = omega arith; granted = omega arith }

-- a poll that puts back a later phase than it took out leaves fewer
pub falls_to : (slice : ℕ) (input : RaceInput) (was phase next place : Phase) → was ≡ phase → place ≡ next → IsTied slice input next → IsBelow (numbers_at was) (numbers_at next)
    → polls_left input.budget (numbers_at place) < polls_left input.budget (numbers_at phase)
falls_to slice input was phase next place took put tied below =
    falls input.budget (numbers_at phase) (numbers_at place)
    (subst (λ (p : Phase × Phase). IsBelow (numbers_at p.0) (numbers_at p.1)) (λ i. (took i, sym put i)) below)
    (bounded slice input place (subst (IsTied slice input) (sym put) tied))
