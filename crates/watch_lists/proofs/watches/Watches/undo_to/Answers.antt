use Rattle.std.proofs.Common.{arith, ◌≡◌, ◌<◌, ◌∙◌, length, ap}
use Rattle.cdcl_tables.specs.Mirrored.{TrailView}
use Rattle.watch_lists.proofs.Firsts.{known}
use Rattle.watch_lists.proofs.Knowns.{known_cut, known_same}
use Rattle.watch_lists.proofs.Views.{view_cut}
use Rattle.watch_lists.proofs.watches.Watches.undo_to.Goals as goal

pub invariant_of-self : goal.invariant_of-self
invariant_of-self c =
    let p = c.self.inside.propagator in
    let items = c.self.inside.known.items in
    let at : c.length.result ≡ length p.entries = c.length.ensures.is ∙ ap (λ (t : TrailView). length t.entries) c.trail.ensures in
    let below : c.args.length < length p.entries = omega (arith, at, c.if-length.false) in (
      known c.cut.new.self c.next-self-inside.new.self c.next-self-inside.result c.next-self-inside.ensures.first c.next-self-inside.ensures.same,
      known_same c.cut.new.self c.next-self-inside.new.self items c.next-self-inside.ensures.same
          (known_cut p c.cut.new.self items c.args.length c.self.invariant.1 below c.cut.ensures),
    )

pub returns : goal.returns
returns c = view_cut c.self.inside.propagator c.next-self-inside.new.self c.args.self.now c.args.length (c.next-self-inside.ensures.same ∙ c.cut.ensures) c.self.view_is
