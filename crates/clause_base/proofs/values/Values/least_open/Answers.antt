use Rattle.std.proofs.Common.{arith}
use Rattle.clause_base.proofs.ValueLemmas.{length-view, least_open-by, some_less}
use Rattle.clause_base.proofs.values.Values.least_open.Goals as goal

pub returns-clause-value : goal.returns-clause-value
returns-clause-value c =
    let w = c.self.inside in
    let found = c.first_open.ensures in
    least_open-by w.variables w.low w.on.items c.deref.result.now c.args.self.now c.first_open.result c.self.invariant c.self.view_is c.deref.ensures.value found.within found.given found.clear
    found.all

pub returns-clause-below : goal.returns-clause-below
returns-clause-below c =
    some_less _ _ c.first_open.result (length-view _ _ c.args.self.now c.self.view_is) c.first_open.ensures.within

pub returns-clause-small : goal.returns-clause-small
returns-clause-small c =
    let long = length-view _ _ c.args.self.now c.self.view_is in
    let few = c.self.invariant.few in
    omega (arith, long, few)
