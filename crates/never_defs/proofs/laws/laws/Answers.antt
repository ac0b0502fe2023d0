use Rattle.never_defs.proofs.Truth.{not_refuted}
use Rattle.never_defs.proofs.ForwardLaw.{forward_hold, nothing_is_needed}
use Rattle.never_defs.proofs.BackwardLaw.{backward_hold}
use Rattle.never_defs.proofs.WeightsLaw.{weights_hold}
use Rattle.never_defs.proofs.Runs.{forward_has_no_run, backward_has_no_run, weights_have_no_run}
use Rattle.never_defs.proofs.laws.laws.Goals as goal

pub returns-clause-forward : goal.returns-clause-forward
returns-clause-forward c = forward_hold

pub returns-clause-backward : goal.returns-clause-backward
returns-clause-backward c = backward_hold

pub returns-clause-weights : goal.returns-clause-weights
returns-clause-weights c = weights_hold

pub returns-clause-forward_set : goal.returns-clause-forward_set
returns-clause-forward_set c = forward_has_no_run

pub returns-clause-backward_set : goal.returns-clause-backward_set
returns-clause-backward_set c = backward_has_no_run

pub returns-clause-weights_set : goal.returns-clause-weights_set
returns-clause-weights_set c = weights_have_no_run

pub returns-clause-nothing : goal.returns-clause-nothing
returns-clause-nothing c = nothing_is_needed

pub returns-clause-refuted : goal.returns-clause-refuted
returns-clause-refuted c = not_refuted
