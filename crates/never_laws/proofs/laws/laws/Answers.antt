use Rattle.never_laws.proofs.PlansLaw.{no_plan}
use Rattle.never_laws.proofs.laws.laws.Goals as goal

pub returns-clause-forward : goal.returns-clause-forward
returns-clause-forward c = λ p g known clauses is invariants certificate.
    no_plan c.laws-3.ensures.plans_are_runs p g is (c.laws.ensures.forward_set g.task known clauses (c.laws-2.ensures.hold g.task known invariants) (c.laws.ensures.forward g.task known clauses certificate))

pub returns-clause-backward : goal.returns-clause-backward
returns-clause-backward c = λ p g known clauses is invariants certificate.
    no_plan c.laws-3.ensures.plans_are_runs p g is (c.laws.ensures.backward_set g.task known clauses (c.laws-2.ensures.hold g.task known invariants) (c.laws.ensures.backward g.task known clauses certificate))

pub returns-clause-weights : goal.returns-clause-weights
returns-clause-weights c = λ p g known weights is invariants certificate.
    no_plan c.laws-3.ensures.plans_are_runs p g is (c.laws.ensures.weights_set g.task known weights (c.laws-2.ensures.hold g.task known invariants) (c.laws.ensures.weights g.task known weights certificate))

pub returns-clause-excluded : goal.returns-clause-excluded
returns-clause-excluded c = λ p g known is invariants goal.
    no_plan c.laws-3.ensures.plans_are_runs p g is (c.laws.ensures.forward_set g.task known _ (c.laws-2.ensures.hold g.task known invariants) (c.laws.ensures.forward g.task known _ (c.laws.ensures.nothing g.task known goal)))
