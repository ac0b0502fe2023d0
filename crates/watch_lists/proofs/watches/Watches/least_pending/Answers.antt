use Rattle.std.proofs.Common.{◌∙◌, length, sym, ap}
use Rattle.clause_base.specs.Clause.{has_literal}
use Rattle.cdcl_defs.specs.Pending.{is_pending_in, least_from}
use Rattle.cdcl_tables.specs.Assignment.{literals}
use Rattle.watch_lists.specs.Pending.{WatchesView}
use Rattle.watch_lists.proofs.Firsts.{first_none, first_some}
use Rattle.watch_lists.proofs.watches.Watches.least_pending.Goals as goal

pub returns-in-None : goal.returns-in-None
returns-in-None c =
    let p = c.self.inside.propagator in
    first_none p.clauses p.kept (has_literal (literals p.entries)) c.self.inside.first c.self.invariant.0 (sym c.in-None.is)
    ∙ ap (λ (v : WatchesView). least_from (is_pending_in v.clauses v.kept (has_literal v.trail)) 0 (length v.clauses)) c.self.view_is

pub returns-in-Some : goal.returns-in-Some
returns-in-Some c =
    let p = c.self.inside.propagator in
    c.number_in.ensures ∙ first_some p.clauses p.kept (has_literal (literals p.entries)) c.self.inside.first c.in-Some.event c.self.invariant.0 (sym c.in-Some.is)
    ∙ ap (λ (v : WatchesView). least_from (is_pending_in v.clauses v.kept (has_literal v.trail)) 0 (length v.clauses)) c.self.view_is
