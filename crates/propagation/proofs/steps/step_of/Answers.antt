use Rattle.std.proofs.Common.{arith, ◌-◌, refl}
use Rattle.clause_base.proofs.published.RepeatLemmas.{numbered}
use Rattle.propagation.proofs.steps.step_of.Goals as goal

pub returns : goal.returns
returns c lt =
    let n = numbered c.args.steps c.args.size (c.args.number - c.args.before) c.args.size refl (omega arith) in
    record { inside = lt; first = omega (arith, n.2); last = omega (arith, n.1, n.2) }
