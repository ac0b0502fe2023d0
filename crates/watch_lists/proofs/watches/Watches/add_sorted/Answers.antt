use Rattle.std.proofs.Common.{◌∙◌, ap, sym, subst}
use Rattle.clause_base.specs.Clause.{has_literal, HasVariablesBelow}
use Rattle.propagation.specs.Front.{first_asked}
use Rattle.cdcl_tables.specs.Assignment.{literals}
use Rattle.propagation.specs.Pending.{PropagatorView}
use Rattle.watch_lists.specs.Pending.{WatchesView}
use Rattle.watch_lists.proofs.Firsts.{known}
use Rattle.watch_lists.proofs.Knowns.{known_add, known_same}
use Rattle.watch_lists.proofs.watches.Watches.add_sorted.Goals as goal

pub add_sorted-requires-clause-below : goal.add_sorted-requires-clause-below
add_sorted-requires-clause-below c =
    subst (HasVariablesBelow c.self.inside.propagator.variables) (sym c.in_ok-shared.ensures)
    (subst (λ (v : WatchesView). HasVariablesBelow v.variables c.args.clause.now) (sym c.self.view_is) c.requires.below)

pub invariant_of-self : goal.invariant_of-self
invariant_of-self c = (
  c.self.invariant.0 ∙ ap (λ (p : PropagatorView). first_asked p.clauses p.kept (has_literal (literals p.entries))) (sym c.in_err-add_sorted.ensures.err),
  known_same c.self.inside.propagator c.add_sorted.new.self c.self.inside.known.items c.in_err-add_sorted.ensures.err c.self.invariant.1,
)

pub invariant_of-self-2 : goal.invariant_of-self-2
invariant_of-self-2 c = (
  known c.add_sorted.new.self c.next-self-inside.new.self c.next-self-inside.result c.next-self-inside.ensures.first c.next-self-inside.ensures.same,
  known_same c.add_sorted.new.self c.next-self-inside.new.self c.self.inside.known.items c.next-self-inside.ensures.same
      (known_add c.self.inside.propagator c.add_sorted.new.self c.self.inside.known.items c.in_ok-shared.shared c.self.invariant.1 c.in_ok-add_sorted.ensures.ok),
)
