use Rattle.std.proofs.Common.{arith, ◌∙◌, ap, length}
use Rattle.clause_base.specs.Clause.{has_literal}
use Rattle.cdcl_defs.specs.Pending.{is_pending_in}
use Rattle.cdcl_tables.specs.Assignment.{AssignmentView, literals}
use Rattle.propagation.specs.Pending.{PropagatorView}
use Rattle.propagation.specs.own.Tables.{pending_in}
use Rattle.propagation.proofs.Undoes.{read_as, sound_stay}
use Rattle.propagation.proofs.propagator.Propagator.known.Goals as goal

pub list_from-requires-clause-read : goal.list_from-requires-clause-read
list_from-requires-clause-read c =
    let w = c.self.inside in
    read_as w.variables w.tables w.lists (literals w.trail.entries) w.quiet.items w.trail.variables c.assignment-assignment.result c.self.invariant.0
    c.self.invariant.2 c.assignment-assignment.ensures

pub returns-clause-listed : goal.returns-clause-listed
returns-clause-listed c k p b =
    let w = c.self.inside in
    let same = ap (λ (v : PropagatorView). is_pending_in v.clauses v.kept (has_literal (literals v.entries)) k) c.self.view_is ∙ p in
    let told = ap (λ (t : AssignmentView). pending_in w.tables t.trail k) c.assignment-assignment.ensures ∙ same in
    c.list_from.ensures.listed k told (c.self.invariant.0.complete k same) b

pub returns-clause-below : goal.returns-clause-below
returns-clause-below c = omega (arith, c.list_from.ensures.below, ap (λ (v : PropagatorView). length v.clauses) c.self.view_is)

pub invariant_of-self : goal.invariant_of-self
invariant_of-self c = let w = c.self.inside in (
  sound_stay w.variables w.tables w.lists (literals w.trail.entries) w.quiet.items w.trail.variables c.assignment-assignment.result c.list_from.new.pending
      c.self.invariant.0 c.assignment-assignment.ensures c.list_from.ensures.asks c.list_from.ensures.stay,
  c.self.invariant.1,
  c.self.invariant.2,
)
