use Rattle.search_top.specs.Refuted.{FormulaTold}
use Rattle.search_top.proofs.Refuting.{of_forward, of_faulty, of_backward, of_weights}
use Rattle.search_top.proofs.refute.formula_in.Goals as goal

pub returns-in-Forward : goal.returns-in-Forward
returns-in-Forward g c = of_forward (FormulaTold c.args.task.now) _ c.formula_told.result _ (rw (c.in-Forward.is, c.facts.ensures.facts) at c.in_ok-reading.ensures.exact) c.formula_told.ensures

pub returns-in-Faulty : goal.returns-in-Faulty
returns-in-Faulty g c = of_faulty (FormulaTold c.args.task.now) _ c.faulty.result _ _ (rw (c.in-Faulty.is, c.facts.ensures.facts) at c.in_ok-reading.ensures.exact) c.faulty.ensures.ended c.faulty.ensures.memory

pub returns-in-Backward : goal.returns-in-Backward
returns-in-Backward g c = of_backward (FormulaTold c.args.task.now) _ c.other_kind.result _ (rw (c.in-Backward.is, c.facts.ensures.facts) at c.in_ok-reading.ensures.exact) c.other_kind.ensures.ended c.other_kind.ensures.memory

pub returns : goal.returns
returns g c = of_weights (FormulaTold c.args.task.now) _ c.other_kind-in-Weights.result _ (rw (c.in-Weights.is, c.facts.ensures.facts) at c.in_ok-reading.ensures.exact) c.other_kind-in-Weights.ensures.ended c.other_kind-in-Weights.ensures.memory
