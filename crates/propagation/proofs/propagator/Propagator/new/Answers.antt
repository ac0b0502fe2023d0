use Rattle.propagation.proofs.Givens.{empty_over}
use Rattle.propagation.proofs.propagator.Propagator.new.Goals as goal

pub over-requires : goal.over-requires
over-requires c = empty_over c.in_ok-trail.trail _ _ c.in_ok-trail.ensures c.variables.ensures.value
