use Rattle.std.proofs.Common.{inr, sym, subst}
use Rattle.clause_base.specs.Clause.{has_literal}
use Rattle.cdcl_defs.specs.Pending.{is_pending, open_ones}
use Rattle.propagation.specs.own.Asks.{IsUnit}
use Rattle.propagation.specs.own.Status.{IsStatus}
use Rattle.propagation.proofs.Asks.{none_open, one_open}
use Rattle.propagation.proofs.scan.ask_of.Goals as goal

pub returns-in-Open : goal.returns-in-Open
returns-in-Open c =
    let on = has_literal c.args.assignment.now.trail in
    let xs = c.args.clause.now in
    subst (IsStatus (is_pending on xs) (open_ones on xs)) c.in-Open.is c.status_of.ensures

pub returns-in-Falsified : goal.returns-in-Falsified
returns-in-Falsified c =
    let on = has_literal c.args.assignment.now.trail in
    let xs = c.args.clause.now in
    let is = subst (IsStatus (is_pending on xs) (open_ones on xs)) c.in-Falsified.is c.status_of.ensures in
    c.first_ask.ensures on (λ p some inside. none_open on xs p inside is.1)

pub returns-in-Unit : goal.returns-in-Unit
returns-in-Unit c =
    let on = has_literal c.args.assignment.now.trail in
    let xs = c.args.clause.now in
    let is = subst (IsStatus (is_pending on xs) (open_ones on xs)) c.in-Unit.is c.status_of.ensures in
    inr (subst (IsUnit on xs) (sym c.lit.view_is) (one_open on xs c.in-Unit.lit is.1))
