use Rattle.std.proofs.Common.{arith, rules, ◌≡◌, ◌==◌, ◌<◌, ◌≤◌, ◌-◌, Bool, true, false, ℕ, length, slice_index_or, refl, sym, ap, subst}
use Rattle.futures.specs.Joined.{IsLive, MayGive}
use Rattle.poll_run.specs.own.Turns.{Falls, slot_left}
use Rattle.poll_run.proofs.published.Slots.{all-set, zip-set}
use Rattle.poll_run.proofs.Falls.{falls_not, falls_more, falls_here, fell_more}
use Rattle.poll_run.proofs.in_turns.poll_each.Goals as goal

pub loop-turn-init : goal.loop-turn-init
loop-turn-init g c = record {
  live = c.requires.live;
  many = refl;
  same = λ ends z. z;
  falls = falls_not g.A.Bounded.polls_left c.args.slots.now.items;
  fell = λ turn below. absurd (omega (arith, below));
  kept = search rules;
}

pub loop-turn-preserved : goal.loop-turn-preserved
loop-turn-preserved g c =
    let xs = c.loop-turn.slots.items in
    let i = slice_index_or c.args.turns.now c.loop-turn.turn-index 0 in
    let x = c.advance.new.slot in
    let w = c.index_mut.result.now in
    let bound : i < length xs = search rules in
    let falling = subst (λ s. slot_left g.A.Bounded.polls_left x ≤ slot_left g.A.Bounded.polls_left s - 1) c.index_mut.ensures.value c.advance.ensures.falls in
    record {
      live = all-set (IsLive g.A.Future.can_poll) xs i x c.loop-turn.invariant.live c.advance.ensures.live;
      many = search rules;
      same = λ ends z. c.loop-turn.invariant.same ends (zip-set g.A.Future.can_poll g.A.Future.gives xs i _ x bound (λ a m. subst (λ s. MayGive g.A.Future.gives s a) c.index_mut.ensures.value (c.advance.ensures.same a m)) ends z);
      falls = λ place. falls_more g.A.Bounded.polls_left c.args.slots.now.items xs i x w bound c.loop-turn.invariant.many falling place 0 (omega arith) (c.loop-turn.invariant.falls place);
      fell = fell_more g.A.Bounded.polls_left c.args.slots.now.items xs i x w bound c.loop-turn.invariant.many falling c.args.turns.now c.loop-turn.turn-index refl c.loop-turn.invariant.falls c.loop-turn.invariant.fell;
      kept = search rules;
    }

pub returns-clause-falls : goal.returns-clause-falls
returns-clause-falls g c = (c.loop-turn.invariant.falls, λ turn below. c.loop-turn.invariant.fell turn (let ended = c.loop-turn-test.false in omega (arith, below, ended)))
