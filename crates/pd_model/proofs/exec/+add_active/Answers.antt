use Rattle.std.proofs.Common.{◌++◌, length, sym, refl}
use Rattle.std.proofs.lemmas.List.{take_all, get_or_default}
use Rattle.pd_model.specs.Exec.{active_at}
use Rattle.pd_model.specs.Fits.{tuples, fitting}
use Rattle.pd_model.specs.own.Variables.{effect_names}
use Rattle.pd_model.proofs.published.Walks.{by_first, for_none, popped}
use Rattle.pd_model.proofs.Tried.{one_more, tried_all}
use Rattle.pd_model.proofs.exec.+add_active.Goals as goal

pub returns-in_default-clause-added : goal.returns-in_default-clause-added
returns-in_default-clause-added t c =
    let f = active_at c.args.state.now c.args.effect.now in
    rw (for_none f c.args.p.now c.args.objects.now.items c.args.over.now c.in_default.ensures.cases, ← c.deref.ensures.value) c.add_one.ensures

pub loop-o-preserved : goal.loop-o-preserved
loop-o-preserved t c =
    let f = active_at c.args.state.now c.args.effect.now in
    let added = rw (c.in_ok-push.ensures.items, c.loop-o.invariant.0) at c.in_ok-add_active.ensures.added in
    let kept = rw (c.in_ok-push.ensures.items, c.loop-o.invariant.0) at c.in_ok-add_active.ensures.kept in
    let more = one_more f c.args.objects.now.items (tuples c.args.p.now c.in-Some.rest.now) c.deref-o-items.result.now c.loop-o.o-index _ c.args.into.now c.loop-o.into c.add_active.new.into c.loop-o-test.true (get_or_default c.deref-o-items.result.now c.loop-o.o-index _ _ c.loop-o-test.true) c.loop-o.invariant.1 added in
    (popped c.args.objects.now.items c.pop.new.self.items c.add_active.new.objects.items _ _ kept (sym c.add_active.new.objects.ok.0) c.pop.ensures.rest, more)

pub returns-clause-added : goal.returns-clause-added
returns-clause-added t c =
    let s = c.args.state.now in
    let e = c.args.effect.now in
    let objects = c.args.objects.now.items in
    let f = active_at s e in
    let rest = tuples c.args.p.now c.in-Some.rest.now in
    let fits = fitting c.args.p.now c.in-Some.kind.now in
    let some = rw (take_all c.loop-o.o-index c.deref-o-items.result.now c.loop-o-test.false) at c.loop-o.invariant.1 in
    let stand = rw (c.len.ensures, c.args.objects.now.ok.0, ← c.deref-o-items.ensures.value) at c.in_ok-tried.ensures in
    let all = tried_all s e objects c.deref-o-items.result.now fits rest (effect_names (length objects) e) c.args.into.now c.loop-o.into refl stand some in
    rw (c.in-Some.ensures.cases.0, by_first (λ more. f (objects ++ more)) rest fits) all
