use Rattle.std.proofs.Common.{◌∙◌, ap, ℕ, List, subst, sym}
use Rattle.clause_base.specs.Clause.{has_literal}
use Rattle.cdcl_tables.specs.Assignment.{AssignmentView, literals}
use Rattle.propagation.specs.Front.{first_asked, IsComplete}
use Rattle.propagation.specs.Pending.{PropagatorView}
use Rattle.propagation.specs.own.Tables.{pending_in}
use Rattle.propagation.proofs.Undoes.{read_as, sound_stay}
use Rattle.propagation.proofs.propagator.Propagator.next.Goals as goal

pub next-requires : goal.next-requires
next-requires c =
    let w = c.self.inside in
    read_as w.variables w.tables w.lists (literals w.trail.entries) w.quiet.items w.trail.variables c.assignment-assignment.result c.self.invariant.0
    c.self.invariant.2 c.assignment-assignment.ensures

pub returns-clause-first : goal.returns-clause-first
returns-clause-first c =
    let w = c.self.inside in
    let told = ap (λ (t : AssignmentView). t.trail) c.assignment-assignment.ensures in
    c.next.ensures.first (subst (λ (xs : List ℕ). IsComplete (pending_in w.tables xs) w.lists.pending) (sym told) c.self.invariant.0.complete)
    ∙ ap (λ (xs : List ℕ). first_asked w.tables.store.clauses w.tables.kept.items (has_literal xs)) told
    ∙ ap (λ (v : PropagatorView). first_asked v.clauses v.kept (has_literal (literals v.entries))) c.self.view_is

pub invariant_of-self : goal.invariant_of-self
invariant_of-self c = let w = c.self.inside in (
  sound_stay w.variables w.tables w.lists (literals w.trail.entries) w.quiet.items w.trail.variables c.assignment-assignment.result c.next.new.pending
      c.self.invariant.0 c.assignment-assignment.ensures c.next.ensures.asks c.next.ensures.stay,
  c.self.invariant.1,
  c.self.invariant.2,
)
