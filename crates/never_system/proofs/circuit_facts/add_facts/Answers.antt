use Rattle.std.proofs.Common.{arith, ◌-◌, ◌+◌, ◌∙◌, sym, ap}
use Rattle.never_system.specs.Aiger.{Circuit, with_facts}
use Rattle.never_system.proofs.Turns.{next}
use Rattle.never_system.proofs.circuit_facts.add_facts.Goals as goal

pub loop-fact-preserved : goal.loop-fact-preserved
loop-fact-preserved c =
    let task = c.args.task.now in
    let width = c.args.width in
    let fact = c.loop-fact.fact in
    c.loop-fact.invariant
    ∙ (next task width task.facts fact c.loop-fact.circuit (omega (arith, c.loop-fact-test.true, c.facts-fact-end.ensures.facts))
    ∙ ap (λ (x : Circuit). with_facts task width (task.facts - (fact + 1)) (fact + 1) x) (sym c.in_ok-add_fact.ensures))
