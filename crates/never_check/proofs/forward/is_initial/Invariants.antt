use Rattle.std.proofs.Common.{◌≡◌, drop}
use Rattle.gt_core.specs.Task.{initial_state}
use Rattle.never_defs.specs.Sets.{is_true_in}
use Rattle.never_check.proofs.forward.is_initial.Given as goal

abbrev pub invariant-loop-lit : goal.invariant-loop-lit
invariant-loop-lit l = is_true_in (initial_state l.task) (drop l.lit-index l.clause) ≡ is_true_in (initial_state l.task) l.clause
