use Rattle.std.proofs.Common.{◌≡◌, ◌<◌, ℕ, length, slice_index_or}
use Rattle.std.specs.List.{AllByRecursion}
use Rattle.futures.specs.Task.{Keeps}
use Rattle.futures.specs.Joined.{IsLive}
use Rattle.poll_run.specs.own.Turns.{Narrows, Falls}
use Rattle.poll_run.proofs.in_turns.poll_each.Given as goal

abbrev pub invariant-loop-turn : goal.invariant-loop-turn
invariant-loop-turn g l = record {
  live : AllByRecursion (IsLive g.A.Future.can_poll) l.slots.items;
  many : length l.slots.items ≡ length l.initial.slots.items;
  same : Narrows g.A.Future.gives l.initial.slots.items l.slots.items;
  falls : (place : ℕ) → Falls g.A.Bounded.polls_left l.initial.slots.items l.slots.items place 0;
  fell : (turn : ℕ) → turn < l.turn-index → Falls g.A.Bounded.polls_left l.initial.slots.items l.slots.items (slice_index_or l.turns turn 0) 1;
  kept : Keeps l.initial.cx l.cx;
}
