use Rattle.std.proofs.Common.{arith, ◌≡◌, ◌/◌, ◌<◌, ◌∙◌, ℕ, length, set, sym, ap, subst}
use Rattle.clause_base.specs.Literal.{opposite}
use Rattle.clause_base.specs.Clause.{has_literal}
use Rattle.cdcl_defs.specs.State.{value_of}
use Rattle.cdcl_tables.specs.Mirrored.{TrailView}
use Rattle.propagation.specs.Pending.{PropagatorView}
use Rattle.watch_lists.specs.own.Known.{AreKnown}
use Rattle.watch_lists.specs.Pending.{WatchesView}
use Rattle.watch_lists.proofs.Firsts.{known}
use Rattle.watch_lists.proofs.Knowns.{known_push, known_same, pushed}
use Rattle.watch_lists.proofs.Views.{none_of, view_push}
use Rattle.watch_lists.proofs.watches.Watches.assign.Goals as goal

pub assign-requires-clause-opened : goal.assign-requires-clause-opened
assign-requires-clause-opened c =
    ap (λ (p : PropagatorView). value_of p.entries (c.args.lit / 2)) c.known-known.ensures.same
    ∙ none_of c.self.inside.propagator.entries c.args.lit
    (ap (λ (v : WatchesView). has_literal v.trail c.args.lit) c.self.view_is ∙ c.requires.off)
    (ap (λ (v : WatchesView). has_literal v.trail (opposite c.args.lit)) c.self.view_is ∙ c.requires.free)

pub invariant_of-self : goal.invariant_of-self
invariant_of-self c =
    let p = c.self.inside.propagator in
    let items = c.self.inside.known.items in
    let here = c.known-known.result in
    let at : c.length-length.result ≡ length p.entries = c.length-length.ensures.is ∙ ap (λ (t : TrailView). length t.entries) c.trail.ensures in
    let over = ap (λ (t : TrailView). t.variables) c.trail.ensures in
    let room : length p.entries < length items = omega (arith, at, over, c.length-length.ensures.short, c.self.invariant.1.size) in
    let e = pushed p c.known-known.new.self c.assign.new.self _ c.known-known.ensures.same c.assign.ensures in (
      known c.assign.new.self c.next-self-inside.new.self c.next-self-inside.result c.next-self-inside.ensures.first c.next-self-inside.ensures.same,
      known_same c.assign.new.self c.next-self-inside.new.self _ c.next-self-inside.ensures.same
          (subst (λ (n : ℕ). AreKnown c.assign.new.self (set items n here)) (sym at)
          (known_push p c.assign.new.self items here _ c.self.invariant.1 room c.known-known.ensures.below c.known-known.ensures.listed e)),
    )

pub returns : goal.returns
returns c =
    let e = pushed c.self.inside.propagator c.known-known.new.self c.assign.new.self _ c.known-known.ensures.same c.assign.ensures in
    view_push c.self.inside.propagator c.next-self-inside.new.self c.args.self.now _ (c.next-self-inside.ensures.same ∙ e) c.self.view_is
