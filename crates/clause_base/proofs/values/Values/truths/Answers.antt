use Rattle.std.proofs.Common.{arith, List, Bool, false, get_or, ap, ◌∙◌}
use Rattle.clause_base.proofs.ValueLemmas.{length-view, truth_is}
use Rattle.clause_base.proofs.values.Values.truths.Goals as goal

pub returns-clause-size : goal.returns-clause-size
returns-clause-size c =
    let long = length-view _ _ c.args.self.now c.self.view_is in
    let size = c.self.invariant.size in
    let same = c.as_slice.ensures.len in
    omega (arith, long, size, same, c.self.inside.on.ok)

pub returns-clause-truths : goal.returns-clause-truths
returns-clause-truths c l h =
    let w = c.self.inside in
    ap (λ (on : List Bool). get_or on l false) c.as_slice.ensures.value ∙ truth_is w.variables w.low w.on.items c.args.self.now c.self.invariant c.self.view_is l
