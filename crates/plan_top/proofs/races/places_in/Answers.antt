use Rattle.std.proofs.Common.{◌≡◌, List, ℕ, sym, subst, arith}
use Rattle.poll_batch.specs.Batch.{IsOrder}
use Rattle.plan_top.proofs.Turns.{first_turns, order}
use Rattle.plan_top.proofs.races.places_in.Goals as goal

pub returns-clause-places : goal.returns-clause-places
returns-clause-places c =
    let all : c.loop-turn.turn ≡ c.args.count = omega (arith, c.loop-turn-test.false, c.loop-turn.auto.turn-end) in
    let is : c.loop-turn.places.items ≡ first_turns c.args.turns c.args.count c.args.count = rw all at c.loop-turn.invariant in
    subst (λ (xs : List ℕ). IsOrder c.args.count xs) (sym is) (order c.args.turns c.args.count)
