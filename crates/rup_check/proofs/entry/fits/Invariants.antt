use Rattle.std.proofs.Common.{◌≡◌, length}
use Rattle.clause_base.specs.Clause.{has_variables_below}
use Rattle.rup_check.proofs.entry.fits.Given as goal

abbrev pub invariant-loop-lit : goal.invariant-loop-lit
invariant-loop-lit l = has_variables_below l.variables l.left ≡ has_variables_below l.variables l.clause

abbrev pub decreases-loop-lit : goal.decreases-loop-lit
decreases-loop-lit l = length l.left
