use Rattle.std.proofs.Common.{◌≡◌, length, rules, tests}
use Rattle.action_order.proofs.MoveLaw.{walked}
use Rattle.action_order.proofs.walk.Walk.walk_on.Goals as goal

pub loop-self-preserved : goal.loop-self-preserved
loop-self-preserved c = record { walk = c.in_ok-step.ensures.walk; keeps = λ v seen. c.in_ok-step.ensures.keeps v (c.loop-self.invariant.keeps v seen) }

pub returns-clause-end : goal.returns-clause-end
returns-clause-end c =
    let none : length c.loop-self.self.work.items ≡ 0 = search (rules, tests) in
    walked c.args.targets.now _ _ _ _ _ c.loop-self.invariant.walk.walk none
