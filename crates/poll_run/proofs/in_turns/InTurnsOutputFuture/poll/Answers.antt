use Rattle.std.proofs.Common.{sym, ap, ◌∙◌, subst}
use Rattle.std.specs.List.{AllByRecursion, AllZip}
use Rattle.futures.specs.Joined.{MayGive, IsDone}
use Rattle.poll_run.proofs.published.Slots.{gives-done, if-ok}
use Rattle.poll_run.proofs.Falls.{fewer, at_each}
use Rattle.poll_run.proofs.in_turns.InTurnsOutputFuture.poll.Goals as goal

pub returns-then-are_done-clause-value : goal.returns-then-are_done-clause-value
returns-then-are_done-clause-value g c =
    if-ok _ _ (λ ends is.
    let slots = ap (λ v. v.items) (sym c.replace-slots.ensures.value) ∙ is in
    c.poll_each.ensures.same ends.items (subst (λ ss. AllZip (MayGive g.A.Future.gives) ss ends.items) (sym slots) (gives-done g.A.Future.can_poll g.A.Future.gives ends.items)))
    c.take_all.result c.take_all.ensures

pub returns-clause-same : goal.returns-clause-same
returns-clause-same g c = rw c.yield_now.ensures.pending (λ x. if-ok _ _ (λ ends may. c.poll_each.ensures.same ends.items may) x)

pub returns-clause-fewer : goal.returns-clause-fewer
returns-clause-fewer g c =
    let old = c.args.self.now.slots.items in
    let new = c.poll_each.new.slots.items in
    let left = g.A.Bounded.polls_left in
    let undone : AllByRecursion IsDone new → ⊥ = λ all. c.are_done.ensures.undone c.if-are_done.false (subst (λ ss. AllByRecursion IsDone ss) (sym c.as_slice.ensures.value) all) in
    rw c.yield_now.ensures.pending
    (λ places. fewer left g.A.Future.can_poll old new c.poll_each.ensures.many (at_each left old new c.args.self.now.turns.now places c.poll_each.ensures.falls) c.poll_each.ensures.live undone)
