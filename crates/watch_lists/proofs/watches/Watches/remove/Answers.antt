use Rattle.watch_lists.proofs.Firsts.{known}
use Rattle.watch_lists.proofs.Knowns.{known_remove, known_same}
use Rattle.watch_lists.proofs.watches.Watches.remove.Goals as goal

pub invariant_of-self : goal.invariant_of-self
invariant_of-self c = (
  known c.remove.new.self c.next-self-inside.new.self c.next-self-inside.result c.next-self-inside.ensures.first c.next-self-inside.ensures.same,
  known_same c.remove.new.self c.next-self-inside.new.self c.self.inside.known.items c.next-self-inside.ensures.same
      (known_remove c.self.inside.propagator c.remove.new.self c.self.inside.known.items c.args.number c.self.invariant.1 c.remove.ensures),
)
