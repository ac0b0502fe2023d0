use Rattle.std.proofs.Common.{◌≡◌, None, drop}
use Rattle.gt_core.specs.Literal.{is_in}
use Rattle.never_check.specs.Left.{left_from}
use Rattle.never_check.proofs.left.look_through.Given as goal

abbrev pub invariant-loop-lit : goal.invariant-loop-lit
invariant-loop-lit l = left_from (is_in l.trail.literals) l.one (drop l.lit-index l.clause) ≡ left_from (is_in l.trail.literals) None l.clause
