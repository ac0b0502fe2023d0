use Rattle.std.proofs.Common.{arith, ◌≡◌, [], ◌++◌, append-nil, map, length, sym, ap, ◌∙◌, subst}
use Rattle.std.specs.List.{AllByRecursion, AllZip}
use Rattle.futures.specs.Joined.{IsLive, MayGive}
use Rattle.futures.specs.declared.future.made.maybe_done.MaybeDone.TheVariants.{Future}
use Rattle.poll_run.proofs.published.Slots.{live-fresh, gives-fresh, length-mapped, nil}
use Rattle.poll_run.proofs.in_turns.InTurns+A+A+Output.new.Goals as goal

pub returns-clause-live : goal.returns-clause-live
returns-clause-live g c =
    let fs = c.args.futures.items in
    let none : c.loop-future.future-iterator.rest.items ≡ [] = nil c.loop-future.future-iterator.rest.items (sym c.loop-future.future-iterator.rest.ok.0 ∙ c.in-None.ensures.steps.0) in
    let whole : c.loop-future.yielded ≡ fs = sym (append-nil c.loop-future.yielded) ∙ (ap (λ xs. c.loop-future.yielded ++ xs) (sym none) ∙ c.loop-future.invariant.whole) in
    let slots : c.loop-future.slots.items ≡ map Future fs = c.loop-future.invariant.slots ∙ ap (map Future) whole in
    let many = ap length slots ∙ length-mapped Future fs in
    (subst (AllByRecursion (IsLive g.A.Future.can_poll)) (sym slots) (live-fresh g.A.Future.can_poll g.A.Future.gives fs c.requires.live), λ k d l. let in_range = c.requires.within k d l in omega (arith, in_range, many))

pub returns-clause-gives : goal.returns-clause-gives
returns-clause-gives g c ends may =
    let fs = c.args.futures.items in
    let none : c.loop-future.future-iterator.rest.items ≡ [] = nil c.loop-future.future-iterator.rest.items (sym c.loop-future.future-iterator.rest.ok.0 ∙ c.in-None.ensures.steps.0) in
    let whole : c.loop-future.yielded ≡ fs = sym (append-nil c.loop-future.yielded) ∙ (ap (λ xs. c.loop-future.yielded ++ xs) (sym none) ∙ c.loop-future.invariant.whole) in
    let slots : c.loop-future.slots.items ≡ map Future fs = c.loop-future.invariant.slots ∙ ap (map Future) whole in
    gives-fresh g.A.Future.can_poll g.A.Future.gives fs ends (subst (λ ss. AllZip (MayGive g.A.Future.gives) ss ends) slots may)
