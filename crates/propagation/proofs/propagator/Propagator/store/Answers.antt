-- store
use Rattle.std.proofs.Common.{Bool, List, ap, subst}
use Rattle.cdcl_tables.specs.Stored.{CanReadKept}
use Rattle.propagation.specs.Pending.{PropagatorView}
use Rattle.propagation.proofs.propagator.Propagator.store.Goals as goal

pub returns-clause-clauses : goal.returns-clause-clauses
returns-clause-clauses c = ap (λ (w : PropagatorView). w.clauses) c.self.view_is

pub returns-clause-read : goal.returns-clause-read
returns-clause-read c =
    let w = c.self.inside in
    subst (λ (kept : List Bool). CanReadKept kept w.tables.store) (ap (λ (v : PropagatorView). v.kept) c.self.view_is) c.self.invariant.0.tables.read
