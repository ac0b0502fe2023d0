use Rattle.std.proofs.Common.{arith, sym}
use Rattle.clause_base.proofs.ValueLemmas.{length-view}
use Rattle.clause_base.proofs.values.Values.variables.Goals as goal

pub returns-clause-value : goal.returns-clause-value
returns-clause-value c = sym (length-view _ _ c.args.self.now c.self.view_is)

pub returns-clause-small : goal.returns-clause-small
returns-clause-small c =
    let long = length-view _ _ c.args.self.now c.self.view_is in
    let few = c.self.invariant.few in
    omega (arith, long, few)
